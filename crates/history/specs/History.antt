-- What the receiver is to answer, read off the history of accepted reports, oldest first. Nothing here runs the step.
-- Assumes nothing.
use Rattle.std.specs.Prelude.{ℕ, ◌+◌, ◌≤◌, ◌<◌, ◌≡◌, ◌⊎◌, Bool, true, false, cond, List, [], ◌∷◌, ◌++◌, length}
use Rattle.bits.specs.Runs.{joined}
use Rattle.history.specs.Line.{Line, start, ◌▸◌, ◌⧺◌, count, each, list, Every}
use Rattle.history.specs.Slots.{same_place, next, tick, due, no_fields, no_loss, Header, Heard, nothing}
use Rattle.history.specs.Slots.{fragmented, unfragmented, frag, end, Report}
use Rattle.history.specs.Slots.{is_fragmented, header_in, countdown_in}
use Rattle.blocks.specs.declared.header.Fields.{Fields}
use Rattle.history.specs.declared.Place.{Place}
use Rattle.history.specs.declared.Lost.{Lost}

abbrev pub History : Type 0
History = Line Report

-- Every report of the line names the slot next in turn, the first of them the one after `p`.
abbrev pub final : Place → History → Place
final p start = p
final p (rs ▸ r) = r.place

abbrev pub InTurn : Place → History → Type 0
InTurn p start = Unit {0}
InTurn p (rs ▸ r) = InTurn p rs × (r.place ≡ next (final p rs))

-- A report in this slot is no break: the slot is next in turn, or the report is the first.
abbrev pub Unbroken : History → Place → Type 0
Unbroken start q = Unit {0}
Unbroken (hs ▸ p) q = q ≡ next p.place

-- Frames gone by over the reports: one with each slot 1.
abbrev pub frames : History → ℕ
frames start = 0
frames (rs ▸ r) = tick r.place (frames rs)

-- What the due slots held, counted from a header in frame x with countdown f: block 0's slot, after it block 1's, and
-- so on.
abbrev pub dues : ℕ → ℕ → History → Line Heard
dues x f start = start
dues x f (rs ▸ r) = cond (same_place r.place (due x f (count (dues x f rs)))) (dues x f rs ▸ r.heard) (dues x f rs)

-- A header's bits, and after them those of the blocks, in order.
abbrev pub join : List Bool → Line (List Bool) → List Bool
join bits bs = joined (bits ∷ list bs)

abbrev pub NotFragmented : Heard → Type 0
NotFragmented x = is_fragmented x ≡ false

-- A run: a fragmented header with its place, the reports since, and the blocks that its due slots held.
pub record Run : Type 0 where
  pub header : Header
  pub more : ℕ
  pub countdown : ℕ
  pub place : Place
  pub since : History
  pub blocks : Line (List Bool)

-- The run is open in this history: the latest fragmented header heard from anyone is the run's, and is for this unit;
-- every report since names the slot next in turn; each due slot so far held a DMAC-FRAG, and the last due slot is yet
-- to come.
pub record IsOpen (hs : History) (u : Run) : Type 0 where
  pub before : History
  pub split : hs
      ≡ (before ▸ record { place = u.place; heard = fragmented u.header u.more u.countdown }) ⧺ u.since
  pub for_us : u.header.for_us ≡ true
  pub latest : Every (λ r. NotFragmented r.heard) u.since
  pub turns : InTurn u.place u.since
  pub held : dues u.place.frame u.countdown u.since ≡ each frag u.blocks
  pub short : count u.blocks ≤ u.more

-- The slot of the run's next block.
abbrev pub next_due : Run → Place
next_due u = due u.place.frame u.countdown (count u.blocks)

-- The report closes a full run: a run is open, the report names the slot next in turn, that is the due slot of the
-- run's last block, and it held a DMAC-END. The message is the run's bits, in order.
pub record Closes (hs : History) (r : Report) (fields : Fields) (message : List Bool) : Type 0 where
  pub run : Run
  pub is_open : IsOpen hs run
  pub unbroken : Unbroken hs r.place
  pub in_due : r.place ≡ next_due run
  pub full : count run.blocks ≡ run.more
  pub last : List Bool
  pub holds : r.heard ≡ end last
  pub its_fields : fields ≡ run.header.fields
  pub its_bits : message ≡ join run.header.bits run.blocks ++ last

-- The report brings a block that is kept.
pub record Keeps (hs : History) (r : Report) : Type 0 where
  pub run : Run
  pub is_open : IsOpen hs run
  pub unbroken : Unbroken hs r.place
  pub in_due : r.place ≡ next_due run
  pub not_full : count run.blocks < run.more
  pub block : List Bool
  pub holds : r.heard ≡ frag block

-- A header for this unit, fragmented or not.
abbrev pub Brings : Heard → Header → ℕ → Type 0
Brings x h f = (header_in x ≡ h) × (countdown_in x ≡ f) × (h.for_us ≡ true)

abbrev pub NotForUs : Heard → Type 0
NotForUs x = (header_in x).for_us ≡ false

-- A header heard earlier, and the reports since.
pub record Earlier : Type 0 where
  pub header : Header
  pub countdown : ℕ
  pub since : History

-- It was for this unit, with no break since.
pub record IsEarlier (hs : History) (e : Earlier) : Type 0 where
  pub before : History
  pub report : Report
  pub split : hs ≡ (before ▸ report) ⧺ e.since
  pub brings : Brings report.heard e.header e.countdown
  pub turns : InTurn report.place e.since

-- An unfragmented header h with countdown f at this report is a copy: any earlier one fits it, with the same SCH/H but
-- for the countdown, and a countdown that is the new one plus the frames gone by. That one is not fragmented either,
-- which leaves none out (Req03.antt of `demands`).
pub record Copy (hs : History) (r : Report) (h : Header) (f : ℕ) : Type 0 where
  pub earlier : Earlier
  pub is_earlier : IsEarlier hs earlier
  pub unbroken : Unbroken hs r.place
  pub alike : NotFragmented is_earlier.report.heard
  pub same : earlier.header.raw ≡ h.raw
  pub counted : earlier.countdown ≡ f + frames (earlier.since ▸ r)

-- The report brings an unfragmented message for this unit that is no copy; or one that is.
pub record Singles (hs : History) (r : Report) (fields : Fields) (message : List Bool) : Type 0 where
  pub header : Header
  pub countdown : ℕ
  pub holds : r.heard ≡ unfragmented header countdown
  pub for_us : header.for_us ≡ true
  pub no_copy : Copy hs r header countdown → ⊥
  pub its_fields : fields ≡ header.fields
  pub its_bits : message ≡ header.bits

pub record Copies (hs : History) (r : Report) : Type 0 where
  pub header : Header
  pub countdown : ℕ
  pub holds : r.heard ≡ unfragmented header countdown
  pub for_us : header.for_us ≡ true
  pub is_copy : Copy hs r header countdown

-- The report opens an assembly.
pub record Opens (r : Report) : Type 0 where
  pub header : Header
  pub more : ℕ
  pub countdown : ℕ
  pub holds : r.heard ≡ fragmented header more countdown
  pub for_us : header.for_us ≡ true

-- The due kind of block for the run's next due slot.
abbrev pub DueKind : Run → Heard → Type 0
DueKind u nothing = ⊥
DueKind u (fragmented h more f) = ⊥
DueKind u (unfragmented h f) = ⊥
DueKind u (frag b) = count u.blocks < u.more
DueKind u (end b) = count u.blocks ≡ u.more

-- A header h for this unit, with countdown f, repeats at this report the run's own, before the run's first block.
abbrev pub Repeats : Run → Report → Header → ℕ → Type 0
Repeats u r h f =
    (h.for_us ≡ true) × (count u.blocks ≡ 0) × (u.header.raw ≡ h.raw)
    × (u.countdown ≡ f + frames (u.since ▸ r))

-- Why an open run ends at a report without being handed over.
pub data Ends (hs : History) (u : Run) (r : Report) : Type 0 where
  broken : (Unbroken hs r.place → ⊥) → Ends hs u r
  other_header : (h : Header) (more f : ℕ) → r.heard ≡ fragmented h more f → (Repeats u r h f → ⊥) → Ends hs u r
  missed : r.place ≡ next_due u → NotFragmented r.heard → (DueKind u r.heard → ⊥) → Ends hs u r

pub record Drops (hs : History) (r : Report) : Type 0 where
  pub run : Run
  pub is_open : IsOpen hs run
  pub ends : Ends hs run r

-- Acknowledged short data (4.3.6.2): a DM-SDS DATA (23) or a DM-SDS ACK (24). Of these two a loss is told (7.4.21,
-- 8.5.4.2).
abbrev pub IsAcknowledged : ℕ → Type 0
IsAcknowledged message = (message ≡ 23) ⊎ (message ≡ 24)

-- What is told of a run: the source address of its header, its message type, and the bits joined so far, those of the
-- header and of the blocks kept.
abbrev pub loss : Run → Lost
loss u =
    record {
      source = u.header.fields.source.ssi;
      message = u.header.fields.message;
      bits = length (join u.header.bits u.blocks);
    }

-- The report loses a message of these two: its run is dropped here, and these are the run's three numbers.
pub record Loses (hs : History) (r : Report) (x : Lost) : Type 0 where
  pub drops : Drops hs r
  pub acknowledged : IsAcknowledged drops.run.header.fields.message
  pub its_numbers : x ≡ loss drops.run

-- The three numbers that the history asks for.
pub data LostTold (hs : History) (r : Report) : Lost → Type 0 where
  none_lost : ((x : Lost) → Loses hs r x → ⊥) → LostTold hs r no_loss
  one_lost : (x : Lost) → Loses hs r x → LostTold hs r x

-- The answer that the history asks for: outcome number, header fields, and the message handed over.
pub data Told (hs : History) (r : Report) : ℕ → Fields → List Bool → Type 0 where
  nothing_told : ((g : Fields) (m : List Bool) → Singles hs r g m → ⊥)
      → ((g : Fields) (m : List Bool) → Closes hs r g m → ⊥) → (Opens r → ⊥)
      → (Keeps hs r → ⊥) → (Copies hs r → ⊥) → Told hs r 0 no_fields []
  single_told : (g : Fields) (m : List Bool) → Singles hs r g m → Told hs r 1 g m
  joined_told : (g : Fields) (m : List Bool) → Closes hs r g m → Told hs r 2 g m
  opened_told : Opens r → Told hs r 3 no_fields []
  kept_told : Keeps hs r → Told hs r 4 no_fields []
  copy_told : Copies hs r → Told hs r 5 no_fields []
