-- From `build` to hand-over. The blocks of a build that was not refused, reported in the slots of its layout with
-- nothing in the other slots, are handed over by a receiver that they are for as exactly that message, exactly once,
-- whatever the receiver had heard before.
use Rattle.std.specs.Prelude.{ℕ, suc, ◌+◌, ◌*◌, ◌<◌, ◌≡◌, Bool, true, false, cond, List, [], ◌++◌, ◌⊎◌, eqb, length}
use Rattle.std.specs.Prelude.{take, drop}
use Rattle.bits.specs.Bits.{bits_of}
use Rattle.build.specs.Plan.{blocks_for}
use Rattle.build.specs.Build.{build_of, out_of, sch_s, sch_h}
use Rattle.blocks.specs.declared.sync.Sync.{Sync}
use Rattle.blocks.specs.declared.header.Fields.{Fields}
use Rattle.history.specs.Line.{Line, start, ◌▸◌, ◌⧺◌}
use Rattle.history.specs.Slots.{next, due, Report}
use Rattle.history.specs.History.{History, final, frames, Copies}
use Rattle.history.specs.Step.{Outcome, quiet, single, joined, opened, kept, copy, answer, after, outcome_at}
use Rattle.reports.specs.Lent.{Lent, for_unit}
use Rattle.reports.specs.declared.unit.Settings.{Settings}
use Rattle.receiver.specs.Reached.{report_of, reports, Accepted}
use Rattle.history.specs.declared.Place.{Place}

-- ---- What is sent.

-- A message: the fields of its header, and n bits of the lent bytes.
pub record Message : Type 0 where
  pub fields : Fields
  pub n : ℕ
  pub lent : List ℕ

abbrev pub bits : Message → List Bool
bits m = take m.n (bits_of m.lent)

-- The number of its continuation blocks: 0 where it goes into the header.
abbrev pub k : Message → ℕ
k m = blocks_for m.fields m.n

-- A call of `build` for it that is not refused: SCH/S's fields, the countdown, the lent output.
pub record Build (m : Message) : Type 0 where
  pub sync : Sync
  pub countdown : ℕ
  pub out : List ℕ
  pub taken : (build_of sync countdown m.fields m.n (length m.lent) (length out)).fault ≡ 0

-- The output afterwards, and block i in it.
abbrev pub output : (m : Message) → Build m → List ℕ
output m b = out_of b.sync b.countdown m.fields m.n m.lent b.out

abbrev pub block_in : ℕ → List ℕ → List ℕ
block_in i out = take 34 (drop (34 * i) (drop 24 out))

-- ---- How it is reported.

-- The header in the slot that it names (9.3.25: code 0 is slot 1); block i in a slot; nothing in a slot.
abbrev pub header_slot : (m : Message) → Build m → Place
header_slot m b = record { frame = b.sync.frame; slot = b.sync.slot + 1 }

abbrev pub header_lent : (m : Message) → Build m → Lent
header_lent m b =
    let out = output m b in
    record { frame = b.sync.frame; slot = b.sync.slot + 1; kind = 2; blocks = sch_s out ++ sch_h out }

abbrev pub block_lent : (m : Message) → Build m → ℕ → Place → Lent
block_lent m b i q = record { frame = q.frame; slot = q.slot; kind = 3; blocks = block_in i (output m b) }

abbrev pub nothing_lent : Place → Lent
nothing_lent q = record { frame = q.frame; slot = q.slot; kind = 1; blocks = [] }

-- The due slot of block i, by the layout of this build.
abbrev pub due_slot : (m : Message) → Build m → ℕ → Place
due_slot m b i = due b.sync.frame b.countdown i

-- The reports after that of the header of b, slot by slot, and the number of blocks among them: a repeat of the header,
-- before the first block, from a build of its own, its countdown less by the frames gone by; each block in its due
-- slot; nothing in the other slots.
pub data Sent (s : Settings) (m : Message) (b : Build m) : Line Lent → ℕ → Type 0 where
  first : Sent s m b start 0
  silence : {ls : Line Lent} {i : ℕ} (q : Place) → Sent s m b ls i → q ≡ next (final (header_slot m b) (reports s ls))
      → (i < k m → q ≡ due_slot m b i → ⊥)
      → Sent s m b (ls ▸ nothing_lent q) i
  repeat : {ls : Line Lent} (b' : Build m) → Sent s m b ls 0
      → header_slot m b' ≡ next (final (header_slot m b) (reports s ls))
      → b.countdown ≡ b'.countdown + frames (reports s (ls ▸ header_lent m b')) → Sent s m b (ls ▸ header_lent m b') 0
  block : {ls : Line Lent} {i : ℕ} → Sent s m b ls i → i < k m
      → due_slot m b i ≡ next (final (header_slot m b) (reports s ls))
      → Sent s m b (ls ▸ block_lent m b i (due_slot m b i)) (suc i)

-- ---- What is handed over.

pub record Handed : Type 0 where
  pub fields : Fields
  pub bits : List Bool

abbrev pub with_outcome : Line Handed → Outcome → Line Handed
with_outcome l quiet = l
with_outcome l (single g m) = l ▸ record { fields = g; bits = m }
with_outcome l (joined g m) = l ▸ record { fields = g; bits = m }
with_outcome l opened = l
with_outcome l kept = l
with_outcome l copy = l

-- The messages handed over at the reports rs, in order, where hs was heard before.
abbrev pub handed : History → History → Line Handed
handed hs start = start
handed hs (rs ▸ r) = with_outcome (handed hs rs) (outcome_at (hs ⧺ rs) r)

-- The header's report; with those after it; and all that was heard so far.
abbrev pub header_report : Settings → (m : Message) → Build m → Report
header_report s m b = report_of s (header_lent m b)

abbrev pub all_reports : Settings → (m : Message) → Build m → Line Lent → History
all_reports s m b ls = (start ▸ header_report s m b) ⧺ reports s ls

abbrev pub so_far : Settings → (m : Message) → Build m → History → Line Lent → History
so_far s m b hs ls = (hs ▸ header_report s m b) ⧺ reports s ls

-- What a report on the way is answered with, by its kind: as this for a header, kept for a block, quiet for nothing.
abbrev pub on_its_way : Outcome → ℕ → Outcome
on_its_way header kind = cond (eqb kind 2) header (cond (eqb kind 3) kept quiet)

-- What the receiver does with the message, where hs was heard before.
pub record HandsOver (s : Settings) (m : Message) (b : Build m) (hs : History) : Type 0 where
  -- All of it reported: exactly that message is handed over, exactly once. One that goes into the header is not where
  -- it is a copy of what was heard before.
  pub once : (k m ≡ 0 → Copies hs (header_report s m b) → ⊥) → {ls : Line Lent} → Sent s m b ls (k m)
      → handed hs (all_reports s m b ls) ≡ start ▸ record { fields = m.fields; bits = bits m }
  pub copied : k m ≡ 0 → Copies hs (header_report s m b) → {ls : Line Lent} → Sent s m b ls (k m)
      → handed hs (all_reports s m b ls) ≡ start
  -- One that goes into the header is handed over at the first of its reports, and each repeat is a copy.
  pub at_once : k m ≡ 0 → (Copies hs (header_report s m b) → ⊥)
      → outcome_at hs (header_report s m b) ≡ single m.fields (bits m)
  pub repeated : k m ≡ 0 → {ls : Line Lent} {l : Lent} {i : ℕ} → Sent s m b (ls ▸ l) i
      → outcome_at (so_far s m b hs ls) (report_of s l) ≡ on_its_way copy l.kind
  -- One with blocks: the header opens an assembly; nothing is handed over before the last block.
  pub opens : 0 < k m → outcome_at hs (header_report s m b) ≡ opened
  pub not_before : {ls : Line Lent} {i : ℕ} → Sent s m b ls i → i < k m → handed hs (all_reports s m b ls) ≡ start
  -- Each report on the way opens, for a repeat, or keeps its block, and drops nothing.
  pub undropped : {ls : Line Lent} {l : Lent} {i : ℕ} → Sent s m b (ls ▸ l) i → i < k m
      → answer (after (so_far s m b hs ls)) (report_of s l)
      ≡ record { outcome = on_its_way opened l.kind; dropped = false }
  -- The last block, in its due slot, hands the message over, and drops nothing.
  pub at_last : {ls : Line Lent} {i : ℕ} → Sent s m b ls i → suc i ≡ k m
      → due_slot m b i ≡ next (final (header_slot m b) (reports s ls))
      → answer (after (so_far s m b hs ls)) (report_of s (block_lent m b i (due_slot m b i)))
      ≡ record { outcome = joined m.fields (bits m); dropped = false }

-- ---- There are such reports.

-- How many of the reports bring a header.
abbrev pub headers : Line Lent → ℕ
headers start = 0
headers (ls ▸ l) = cond (eqb l.kind 2) (suc (headers ls)) (headers ls)

pub record EndToEnd : Type 0 where
  -- A message for this unit, whatever was heard before.
  pub hands_over : (s : Settings) (m : Message) (b : Build m) (hs : History)
      → for_unit s m.fields ≡ true → HandsOver s m b hs
  -- Every build can be sent so; one for slot 1 also with the header in both slots of its frame and of each of the F
  -- frames after it.
  pub possible : (s : Settings) (m : Message) (b : Build m) → (ls : Line Lent) × Sent s m b ls (k m)
  pub in_full : (s : Settings) (m : Message) (b : Build m) → b.sync.slot ≡ 0
      → (ls : Line Lent) × Sent s m b ls (k m) × (headers ls ≡ 2 * b.countdown + 1)
  -- None of its reports is refused.
  pub accepted : (s : Settings) (m : Message) (b : Build m) {ls : Line Lent} {l : Lent} {i : ℕ} → Sent s m b (ls ▸ l) i
      → Accepted l
  pub header_accepted : (m : Message) (b : Build m) → (b.sync.slot ≡ 0) ⊎ (b.sync.slot ≡ 2)
      → Accepted (header_lent m b)
