-- What holds of the replies to a log, of runs over it and of all that is printed, beyond what each call promises.
-- Proved in proofs/LawsHold.antt.
use Rattle.std.specs.Prelude.{◌≡◌, ◌⊎◌, List, ◌++◌, ℕ, ◌+◌, ◌≤◌, ◌<◌, length, take}
use Rattle.history.specs.Line.{Line, start}
use Rattle.reports.specs.Lent.{Event}
use Rattle.reports.specs.declared.unit.Settings.{Settings}
use Rattle.receiver.specs.Reached.{Reached}
use Rattle.receiver.specs.declared.Receiver.{Receiver}
use Rattle.slotlog.specs.Log.{settings_at, first_bytes, begun_by, entries}
use Rattle.slotlog.specs.Replies.{replies_of, replies_to}
use Rattle.slotlog.specs.Asked.{AllAsked}
use Rattle.slotlog.specs.Print.{unit_line, lines_of, printed}
use Rattle.slotlog.specs.Room.{moved_up}
use Rattle.slotlog.specs.Runs.{passed, Replies, run_over, Ran, end_line, unless_cut, state_of, RepliesAs, Writes}
use Rattle.slotlog.specs.Printer.{Prints, Printed}
use Rattle.slotlog.specs.declared.replies.NextReply.{NextReply}
use Rattle.slotlog.specs.declared.run.Run.{Run}
use Rattle.slotlog.specs.declared.run.State.{State}
use Rattle.slotlog.specs.declared.run.State.TheVariants.{GoesOn, Wants, Cut}

pub record Laws : Type 0 where
  -- Two answers of `replies::next` to the same receiver and bytes are equal; two of `Run::over`, and the outputs after
  -- them; two of `Run::part`, with the outputs and the rooms after them.
  pub next_unique : {before : Receiver} {rest : List ℕ} → Reached before → {x y : NextReply} → Replies before rest x
      → Replies before rest y → x ≡ y
  pub run_unique : {before : Receiver} {log old : List ℕ} → Reached before → {r q : Run} {new new' : List ℕ}
      → Ran before log old r new → Ran before log old q new' → (r ≡ q) × (new ≡ new')
  pub part_unique : {before : Receiver} (room : List ℕ) (have : ℕ) {old : List ℕ} → Reached before
      → {r q : Run} {new new' after after' : List ℕ}
      → Ran before (take have room) old r new × (after ≡ moved_up have r.read room)
      → Ran before (take have room) old q new' × (after' ≡ moved_up have q.read room)
      → (r ≡ q) × (new ≡ new') × (after ≡ after')
  -- The next record: it takes no more than there is, a byte and more where a run goes on, and whatever follows, the
  -- replies to the whole are its own and then those to what is left.
  pub next_inside : (s : Settings) (ls : Line Event) (rest : List ℕ) → (passed s ls rest).took ≤ length rest
  pub next_forward : (s : Settings) (ls : Line Event) (rest : List ℕ) → state_of (passed s ls rest).shown ≡ GoesOn
      → 1 ≤ (passed s ls rest).took
  pub next_goes : (s : Settings) (ls : Line Event) (rest : List ℕ) → RepliesAs s ls rest (passed s ls rest)
  -- A run: its text are the lines of its replies, and whatever follows, the replies to the whole are these and then
  -- those to what is left. In state `GoesOn` it stopped for want of room; there are three states.
  pub run_writes : (s : Settings) (ls : Line Event) (log : List ℕ) (room : ℕ) → Writes s ls log (run_over s ls log room)
  pub run_full : (s : Settings) (ls : Line Event) (log : List ℕ) (room : ℕ) → (run_over s ls log room).state ≡ GoesOn
      → room < length (run_over s ls log room).text + 128
  pub run_states : (s : Settings) (ls : Line Event) (log : List ℕ) (room : ℕ)
      → (let x = run_over s ls log room in (x.state ≡ GoesOn) ⊎ ((x.state ≡ Wants) ⊎ (x.state ≡ Cut)))
  -- Each reply to a log, in order, is the one that the history of the accepted reports before it asks for.
  pub replies_asked : (log : List ℕ) → AllAsked (settings_at log) start (replies_to log)
  -- Whatever the parts in which a log came and its lines went: the lines so far, and those of the replies to what is
  -- left with whatever follows, are all that is printed of it.
  pub so_far : {input left text : List ℕ} {r : Receiver} {state : State} → Prints input left text r state
      → Printed input left text r state
  pub printed_so_far : {input left text : List ℕ} {r : Receiver} {state : State} (f : Printed input left text r state)
      (z : List ℕ)
      → printed (input ++ z)
      ≡ text ++ lines_of (unless_cut state (replies_of f.settings f.heard (entries (left ++ z))))
  -- A record was cut: all is printed, whatever follows.
  pub printed_cut : {input left text : List ℕ} {r : Receiver} → Prints input left text r Cut → (z : List ℕ)
      → printed (input ++ z) ≡ text
  -- The log has ended, and the run wants more of it: the lines so far, and `cut` where bytes are left over, are all.
  pub printed_end : {input left text : List ℕ} {r : Receiver} → Prints input left text r Wants
      → printed input ≡ text ++ end_line left
  -- The bytes that tell how a log starts give no receiver: `unit` is all that is printed, whatever follows; and the
  -- same of a log that ends there, or before.
  pub printed_unit : (w z : List ℕ) → ((begun_by w).fault ≡ 0 → ⊥) → first_bytes w ≤ length w
      → printed (w ++ z) ≡ unit_line
  pub printed_short : (w : List ℕ) → ((begun_by w).fault ≡ 0 → ⊥) → printed w ≡ unit_line
