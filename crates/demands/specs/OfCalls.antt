-- What the functions of src/ ensure of the calls that they make: the demands.
use Rattle.std.specs.Prelude.{◌≡◌, List, ℕ}
use Rattle.blocks.specs.declared.sync.Sync.{Sync}
use Rattle.blocks.specs.declared.header.Fields.{Fields}
use Rattle.build.specs.declared.Built.{Built}
use Rattle.history.specs.Line.{Line, start}
use Rattle.reports.specs.Lent.{Lent, Event}
use Rattle.reports.specs.declared.unit.Settings.{Settings}
use Rattle.receiver.specs.Reached.{Canonical}
use Rattle.receiver.specs.declared.Receiver.{Receiver}
use Rattle.receiver.specs.declared.Reply.{Reply}
use Rattle.receiver.specs.declared.Fresh.{Fresh}
use Rattle.demands.specs.declared.asked.Asked.{Asked}
use Rattle.demands.specs.Calls.{Calls, HearCall, Made, refusal, heard_after}
use Rattle.demands.specs.Demand1.{SettlesBuild, Begins, SettlesReport}
use Rattle.demands.specs.Demand2.{Call, Builds}
use Rattle.demands.specs.Demand3.{Answers}

-- A call of `build`, by what it is given.
abbrev pub call_of : Sync → ℕ → Fields → ℕ → List ℕ → List ℕ → Call
call_of sync countdown fields n message out =
    record { sync = sync; countdown = countdown; fields = fields; n = n; message = message; out = out }

-- The same, by what is asked for and the output.
abbrev pub call_by : Asked → List ℕ → Call
call_by a out = call_of a.sync a.countdown a.fields a.n a.message.now out

-- Demands 1 and 2 of it.
pub record BuildsAs (c : Call) (r : Built) (after : List ℕ) : Type 0 where
  pub settles : SettlesBuild c r after
  pub builds : Builds c r after

-- Demand 1 of `fresh`; and calls begin with its receiver.
pub record BeginsAs (individual group mni : ℕ) (r : Fresh) : Type 0 where
  pub begins : Begins individual group mni r
  pub calls : Calls r.receiver.settings start r.receiver

-- Demands 1 and 3 of a call of `hear`. It is a call that was made, so all that is proved of these holds of it, and the
-- calls go on with its receiver.
pub record Hearing (c : HearCall) : Type 0 where
  pub made : Made c
  pub settles : SettlesReport c
  pub answers : refusal c ≡ 0 → Answers c
  pub store : Canonical c.reply.receiver.assembly
  pub goes_on : Calls c.settings (heard_after (refusal c) c) c.reply.receiver

-- For all settings and reports whose calls gave its receiver.
abbrev pub HearsAs : Receiver → Lent → Reply → List ℕ → List ℕ → Type 0
HearsAs before l r old new =
    (s : Settings) (ls : Line Event) → Calls s ls before
    → Hearing (record { settings = s; earlier = ls; before = before; report = l; reply = r; old = old; new = new })
