-- A stored run of slot reports over every rule of the receiver: what the step answers from a fresh receiver is what the
-- table says. By demand 3's theorems that is what `hear` answers.
use Rattle.std.specs.Prelude.{List, [], ◌∷◌, cond, length}
use Rattle.history.specs.Step.{State, number, message_of, step, answer, lost_in}
use Rattle.reports.specs.Lent.{fault_in}
use Rattle.reports.specs.declared.unit.Settings.{Settings}
use Rattle.receiver.specs.Reached.{report_of}
use Rattle.demands.specs.Examples.{Example, ◌gives◌}
use Rattle.demands.specs.RunRows.{Row}

abbrev pub unit : Settings
unit = record { individual = 5001; group = 900; mni = 901 }

-- Each report of the table in turn, from this state on.
abbrev pub run : State → List Row → List Example
run t [] = []
run t (r ∷ rs) =
    let x = report_of unit r.lent in
    let a = answer t x in
    let o = a.outcome in
    let l = lost_in t a.dropped in
    let given =
    number o ∷
    cond a.dropped 1 0 ∷
    fault_in r.lent ∷
    length (message_of o) ∷
    l.source ∷
    l.message ∷
    l.bits ∷
    [] in
    (given gives r.stated) ∷ run (step t x) rs
