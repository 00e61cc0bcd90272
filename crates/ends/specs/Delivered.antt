-- The same of the calls: what `hear` answers, and the lent buffer afterwards, when the message arrives.
use Rattle.std.specs.Prelude.{◌≡◌, Bool, true, cond, ◌||◌, ℕ, suc, ◌<◌, eqb, take}
use Rattle.bits.specs.Bits.{bits_of}
use Rattle.history.specs.Line.{Line, start, ◌▸◌, ◌⧺◌, Every}
use Rattle.history.specs.Slots.{next}
use Rattle.history.specs.History.{final, Copies}
use Rattle.history.specs.Step.{opened, copy, number}
use Rattle.reports.specs.Lent.{Lent, Event, for_unit}
use Rattle.reports.specs.declared.unit.Settings.{Settings}
use Rattle.receiver.specs.Reached.{reports, Accepted}
use Rattle.receiver.specs.declared.Receiver.{Receiver}
use Rattle.demands.specs.Calls.{Calls, HearCall, history, current, answer, Taken, Series}
use Rattle.demands.specs.Demand3.{HandsOver, HandsNothing}
use Rattle.ends.specs.EndToEnd.{Message, Build, bits, k, header_slot, header_lent, block_lent, due_slot, Sent}
use Rattle.ends.specs.EndToEnd.{Handed, header_report, on_its_way}

-- What calls handed over, in order: with outcomes 1 and 2 the fields of the answer, and so many bits of the buffer.
abbrev pub hands : ℕ → Bool
hands outcome = eqb outcome 1 || eqb outcome 2

abbrev pub handed_by : Line HearCall → Line Handed
handed_by start = start
handed_by (cs ▸ c) =
    let x : Handed = record { fields = (answer c).fields; bits = take (answer c).bits (bits_of c.new) } in
    cond (hands (answer c).outcome) (handed_by cs ▸ x) (handed_by cs)

-- The reports of a message: its header's, and those after it.
abbrev pub sent_lent : (m : Message) → Build m → Line Lent → Line Lent
sent_lent m b ls = (start ▸ header_lent m b) ⧺ ls

-- A message for this unit, its reports heard after others, whatever they were.
pub record Arrives (s : Settings) (m : Message) (b : Build m) (before : Line Event) : Type 0 where
  -- All of it heard: exactly that message is handed over, exactly once. One that goes into the header is not where it
  -- is a copy of what was heard before.
  pub once : (k m ≡ 0 → Copies (reports s before) (header_report s m b) → ⊥) → {ls : Line Lent} {cs : Line HearCall}
      → Sent s m b ls (k m) → Series s before (sent_lent m b ls) cs
      → handed_by cs ≡ start ▸ record { fields = m.fields; bits = bits m }
  pub copied : k m ≡ 0 → Copies (reports s before) (header_report s m b) → {ls : Line Lent} {cs : Line HearCall}
      → Sent s m b ls (k m) → Series s before (sent_lent m b ls) cs → handed_by cs ≡ start
  -- Nothing is handed over before the last block.
  pub not_before : {ls : Line Lent} {cs : Line HearCall} {i : ℕ} → Sent s m b ls i → i < k m
      → Series s before (sent_lent m b ls) cs → handed_by cs ≡ start
  -- The header of a message with blocks opens an assembly.
  pub opens : 0 < k m → {cs : Line HearCall} {c : HearCall} → Series s before (sent_lent m b start) (cs ▸ c)
      → ((answer c).outcome ≡ 3) × HandsNothing c
  -- Each report on the way opens, for a repeat, or keeps its block, or is quiet; and drops nothing.
  pub on_the_way : {ls : Line Lent} {l : Lent} {cs : Line HearCall} {c : HearCall} {i : ℕ} → Sent s m b (ls ▸ l) i
      → i < k m → Series s before (sent_lent m b (ls ▸ l)) (cs ▸ c)
      → ((answer c).outcome ≡ number (on_its_way opened l.kind)) × ((answer c).dropped ≡ 0) × HandsNothing c
  -- Each repeat of one that goes into the header is a copy.
  pub repeated : k m ≡ 0 → {ls : Line Lent} {l : Lent} {cs : Line HearCall} {c : HearCall} {i : ℕ}
      → Sent s m b (ls ▸ l) i → Series s before (sent_lent m b (ls ▸ l)) (cs ▸ c)
      → ((answer c).outcome ≡ number (on_its_way copy l.kind)) × HandsNothing c

pub record Delivered : Type 0 where
  pub arrives : (s : Settings) (m : Message) (b : Build m) (before : Line Event) → for_unit s m.fields ≡ true
      → Arrives s m b before
  -- The last block in its due slot, whatever came before the header: outcome 2, nothing dropped, and exactly that
  -- message is handed over.
  pub joined : (c : HearCall) → Taken c → (m : Message) (b : Build m) → for_unit c.settings m.fields ≡ true
      → (before ls : Line Lent) (i : ℕ) → c.earlier ≡ (before ▸ header_lent m b) ⧺ ls → Sent c.settings m b ls i
      → suc i ≡ k m
      → due_slot m b i ≡ next (final (header_slot m b) (reports c.settings ls))
      → c.report ≡ block_lent m b i (due_slot m b i)
      → ((answer c).outcome ≡ 2) × ((answer c).dropped ≡ 0) × HandsOver c m.fields (bits m)
  -- A message that goes into the header, at the first of its reports, where it is no copy: outcome 1, and exactly that
  -- message is handed over.
  pub single : (c : HearCall) → Taken c → (m : Message) (b : Build m) → for_unit c.settings m.fields ≡ true
      → k m ≡ 0 → c.report ≡ header_lent m b
      → (Copies (history c) (current c) → ⊥) → ((answer c).outcome ≡ 1) × HandsOver c m.fields (bits m)
  -- There are such calls, for any reports that can be accepted, from any receiver that calls gave.
  pub possible : {s : Settings} {before : Line Event} {r : Receiver} → Calls s before r → (ls : Line Event)
      → Every Accepted ls → (cs : Line HearCall) × Series s before ls cs
