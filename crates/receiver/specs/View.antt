-- The record that stands for a state of the step: what is not there is zero, and the store is zero beyond an open
-- assembly's bits. So the receiver is a function of its settings and of the history.
use Rattle.std.specs.Prelude.{◌≡◌, Bool, cond, List, [], ◌++◌, ℕ, ◌+◌, ◌≤◌, length, take, drop, replicate}
use Rattle.std.proofs.Math.Option.{Option, none, some}
use Rattle.bits.specs.Bits.{bits_of, Inside}
use Rattle.store.specs.Store.{store_of, handed}
use Rattle.history.specs.Slots.{no_fields, no_loss}
use Rattle.history.specs.Step as step
use Rattle.history.specs.Step.{State, Outcome, number, message_of, fields_of, no_run, joined_after, outcome_of}
use Rattle.blocks.specs.declared.header.Fields.{Fields}
use Rattle.history.specs.declared.Place.{Place}
use Rattle.history.specs.declared.Lost.{Lost}
use Rattle.history.specs.declared.Act.{Act}
use Rattle.history.specs.declared.Verdict.{Verdict}
use Rattle.history.specs.declared.What.TheVariants.{Nothing}
use Rattle.reports.specs.Lent.{Lent}
use Rattle.reports.specs.Nears.{nears_of}
use Rattle.reports.specs.Reading.{headless, Reads}
use Rattle.reports.specs.Units.{unit, settings_fit}
use Rattle.reports.specs.declared.unit.Settings.{Settings}
use Rattle.reports.specs.declared.read.Brought.{Brought}
use Rattle.receiver.specs.declared.assembly.Assembly.{Assembly}
use Rattle.receiver.specs.declared.Receiver.{Receiver}
use Rattle.receiver.specs.declared.answer.Answer.{Answer}
use Rattle.receiver.specs.declared.Fresh.{Fresh}
use Rattle.receiver.specs.declared.Reply.{Reply}

-- ---- The record.

-- The place of a receiver that has heard nothing.
abbrev pub no_place : Place
no_place = record { frame = 0; slot = 0 }

abbrev pub place_of : Option Place → Place
place_of none = no_place
place_of (some p) = p

abbrev pub assembly_of : step.Assembly → Assembly
assembly_of a = record { run = a.run; bits = length a.joined; store = store_of a.joined }

abbrev pub receiver_of : Settings → State → Receiver
receiver_of s t =
    record { settings = s; place = place_of t.last; near = nears_of t.near; assembly = assembly_of t.assembly }

-- One that has heard nothing.
abbrev pub empty_assembly : Assembly
empty_assembly = record { run = no_run; bits = 0; store = replicate 512 0 }

abbrev pub new_with : Settings → Receiver
new_with s = record { settings = s; place = no_place; near = nears_of []; assembly = empty_assembly }

abbrev pub new_receiver : ℕ → ℕ → ℕ → Receiver
new_receiver individual group mni = new_with (unit individual group mni)

-- Settings of 2^24 or more are fault 13, and three zeros.
abbrev pub fresh_of : ℕ → ℕ → ℕ → Fresh
fresh_of individual group mni =
    cond (settings_fit individual group mni)
    (record { fault = 0; receiver = new_receiver individual group mni })
    (record { fault = 13; receiver = new_receiver 0 0 0 })

-- ---- The answer, in numbers.

abbrev pub answer_of : Outcome → ℕ → ℕ → Lost → Answer
answer_of o dropped fault lost =
    record {
      outcome = number o;
      dropped = dropped;
      fault = fault;
      bits = length (message_of o);
      fields = fields_of o;
      lost = lost;
    }

-- With this told of a loss.
abbrev pub with_loss : Answer → Lost → Answer
with_loss a lost =
    record {
      outcome = a.outcome;
      dropped = a.dropped;
      fault = a.fault;
      bits = a.bits;
      fields = a.fields;
      lost = lost;
    }

-- One that hands nothing over, and tells of no loss.
abbrev pub plain_answer : ℕ → ℕ → ℕ → Answer
plain_answer outcome dropped fault =
    record { outcome = outcome; dropped = dropped; fault = fault; bits = 0; fields = no_fields; lost = no_loss }

-- The reply of a receiver that is changed where it stands: as it is then, and its answer.
abbrev pub replied : Receiver → Answer → Reply
replied r a = record { receiver = r; answer = a }

-- ---- What the code does with the bits: `j` are those joined so far, `at` their number, and the store holds them.

-- The message bits that a report brings, in the lent bytes.
abbrev pub brought_bits : Brought → List ℕ → List Bool
brought_bits x blocks = take x.bits (drop x.from (bits_of blocks))

-- So many bits are joined after the act, where `b` are brought.
abbrev pub Counted : Act → ℕ → ℕ → ℕ → Type 0
Counted act at n r = (j b : List Bool) → at ≡ length j → n ≡ length b → r ≡ length (joined_after act b j)

-- And the store holds them.
abbrev pub Stored : Act → ℕ → List Bool → List ℕ → List ℕ → Type 0
Stored act at b old new = (j : List Bool) → old ≡ store_of j → at ≡ length j → new ≡ store_of (joined_after act b j)

-- The answer of this outcome, mark and fault, and the lent buffer before and after: the message is at its start.
pub record Tells (o : Outcome) (dropped : Bool) (fault : ℕ) (r : Answer) (old new : List ℕ) : Type 0 where
  pub answer : r ≡ answer_of o (cond dropped 1 0) fault no_loss
  pub buffer : new ≡ handed (message_of o) old

-- The answer to a report that is judged; `joining` are the fields of the open run's header.
abbrev pub Told : Verdict → Brought → List Bool → Fields → ℕ → List ℕ → Answer → List ℕ → List ℕ → Type 0
Told v x b joining at store r old new =
    (j : List Bool) → store ≡ store_of j → at ≡ length j
    → Tells (outcome_of v.outcome x.fields b joining (j ++ b)) v.dropped x.fault r old new

-- What a report brings, by the fault that it is refused for: read where that is 0, and else nothing but the fault.
pub record Brings (fault : ℕ) (s : Settings) (l : Lent) (x : Brought) : Type 0 where
  pub accepted : fault ≡ 0 → Reads s l x
  pub refused : (fault ≡ 0 → ⊥) → x ≡ headless Nothing fault 0 0
  pub inside : Inside (length l.blocks) x.from (x.from + x.bits)
  pub few : x.bits ≤ 264
  pub falls : x.countdown ≤ 3
