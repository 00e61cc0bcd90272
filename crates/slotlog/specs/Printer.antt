-- The printer's meaning: its input comes in parts and its lines go out in parts, and whatever the parts are, what was
-- printed is `printed` of the input. The program reads after what is left of the input, calls `Run::part` on both,
-- writes the lines, and writes `cut` where bytes are left over at the end.
use Rattle.std.specs.Prelude.{◌≡◌, true, List, [], ◌++◌, ℕ, take, drop, Ok}
use Rattle.history.specs.Line.{Line, start}
use Rattle.reports.specs.Lent.{Event}
use Rattle.reports.specs.declared.unit.Settings.{Settings}
use Rattle.receiver.specs.Reached.{Leads}
use Rattle.receiver.specs.declared.Receiver.{Receiver}
use Rattle.slotlog.specs.Log.{is_unit, begun_by, begun, entries}
use Rattle.slotlog.specs.Replies.{LogReply, replies_of, replies_to}
use Rattle.slotlog.specs.Print.{lines_of}
use Rattle.slotlog.specs.Runs.{Ran, Goes}
use Rattle.slotlog.specs.declared.log.Begun.{Begun}
use Rattle.slotlog.specs.declared.run.Run.{Run}
use Rattle.slotlog.specs.declared.run.State.{State}
use Rattle.slotlog.specs.declared.run.State.TheVariants.{GoesOn, Cut}

-- After the first record gave a receiver: the input so far, what is left of it to be read, the lines so far, the
-- receiver, and the state of the last run.
pub data Prints : (input left text : List ℕ) → Receiver → State → Type 0 where
  first : (input : List ℕ) (b : Begun) → begun (begun_by input) ≡ Ok b
      → Prints input (drop b.took input) [] b.receiver GoesOn
  more : {input left text : List ℕ} {r : Receiver} {state : State} → Prints input left text r state → (state ≡ Cut → ⊥)
      → (part : List ℕ) → Prints (input ++ part) (left ++ part) text r GoesOn
  run : {input left text : List ℕ} {r : Receiver} {state : State} → Prints input left text r state → (state ≡ Cut → ⊥)
      → (old new : List ℕ) (x : Run) → Ran r left old x new
      → Prints input (drop x.read left) (text ++ take x.written new) x.receiver x.state

-- What was printed then, and what is to come: the input starts with the settings of a unit, `rest` followed them, and
-- `said` are the replies whose lines were printed; the unit has heard `heard`.
pub record Printed (input left text : List ℕ) (r : Receiver) (state : State) : Type 0 where
  pub settings : Settings
  pub heard : Line Event
  pub rest : List ℕ
  pub said : List LogReply
  pub lines : text ≡ lines_of said
  pub unit : (z : List ℕ) → is_unit (input ++ z) ≡ true
  pub replies : (z : List ℕ) → replies_to (input ++ z) ≡ replies_of settings start (entries (rest ++ z))
  pub leads : Leads settings heard r
  pub goes : Goes settings start rest said left heard state
