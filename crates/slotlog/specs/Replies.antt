-- What is heard of a slot log: a reply for each of its records, for whatever is told of them.
use Rattle.std.specs.Prelude.{cond, List, [], ◌∷◌, ℕ, zero, suc, length, drop}
use Rattle.blocks.specs.Faults.{first_of}
use Rattle.history.specs.Line.{Line, start, ◌▸◌}
use Rattle.history.specs.Step.{outcome_at, dropped_at, loss_at}
use Rattle.reports.specs.Lent.{Lent, Event, report_rules, fault_in}
use Rattle.reports.specs.declared.unit.Settings.{Settings}
use Rattle.receiver.specs.View.{plain_answer, answer_of}
use Rattle.receiver.specs.Reached.{report_of, reports}
use Rattle.receiver.specs.declared.answer.Answer.{Answer}
use Rattle.slotlog.specs.Log.{Entry, report, other, cut, settings_at, first_bytes, entries}

-- The receiver's answer to a report, after these accepted ones, and the accepted ones after it. A refused report has
-- not happened.
abbrev pub refusal : Lent → ℕ
refusal l = first_of (report_rules l.frame l.slot l.kind (length l.blocks) 512)

abbrev pub answer_when : ℕ → Settings → Line Event → Lent → Answer
answer_when zero s ls l =
    answer_of
    (outcome_at (reports s ls) (report_of s l))
    (cond (dropped_at (reports s ls) (report_of s l)) 1 0)
    (fault_in l)
    (loss_at (reports s ls) (report_of s l))
answer_when (suc n) s ls l = plain_answer 0 0 (suc n)

abbrev pub heard_when : ℕ → Line Event → Lent → Line Event
heard_when zero ls l = ls ▸ l
heard_when (suc n) ls l = ls

-- The reply to a record. To a report, for a unit with these settings that has heard these reports, it is the receiver's
-- answer; another record is passed over; after one that is cut nothing is heard.
pub data LogReply : Type 0 where
  to_report : Settings → Line Event → Lent → Answer → LogReply
  to_other : LogReply
  to_cut : LogReply

-- The replies to records, for a unit with these settings that has heard these reports.
unfoldable pub replies_of : Settings → Line Event → List Entry → List LogReply
replies_of s ls [] = []
replies_of s ls (report l ∷ es) =
    to_report s ls l (answer_when (refusal l) s ls l) ∷ replies_of s (heard_when (refusal l) ls l) es
replies_of s ls (other ∷ es) = to_other ∷ replies_of s ls es
replies_of s ls (cut ∷ es) = to_cut ∷ []

-- All that is heard of a log that starts with the settings of a unit.
abbrev pub replies_to : List ℕ → List LogReply
replies_to log = replies_of (settings_at log) start (entries (drop (first_bytes log) log))
