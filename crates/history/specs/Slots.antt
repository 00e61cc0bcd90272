-- Slots in their turn, and what a report brings once its blocks are read (document 01, 'What the receiver does with a
-- report').
use Rattle.std.specs.Prelude.{ℕ, suc, ◌+◌, ◌%◌, Bool, true, false, cond, ◌&&◌, List, [], eqb}
use Rattle.blocks.specs.Slots.{due_frame}
use Rattle.blocks.specs.Header as blocks
use Rattle.blocks.specs.declared.header.Fields.{Fields}
use Rattle.store.specs.declared.Raw.{Raw}
use Rattle.history.specs.declared.Place.{Place}
use Rattle.history.specs.declared.Lost.{Lost}
use Rattle.history.specs.declared.What.{What}
use Rattle.history.specs.declared.What.TheVariants.{Nothing, Fragmented, Unfragmented, Frag, End}

-- A place is a frame, 1 to 18, and a slot, 1 or 3.
abbrev pub same_place : Place → Place → Bool
same_place p q = eqb p.frame q.frame && eqb p.slot q.slot

-- After slot 1 comes slot 3 of the same frame, then slot 1 of the next; frame 18 is followed by frame 1.
abbrev pub next : Place → Place
next p = cond (eqb p.slot 1) (record { frame = p.frame; slot = 3 }) (record { frame = p.frame % 18 + 1; slot = 1 })

-- One frame more has gone by at slot 1.
abbrev pub tick : Place → ℕ → ℕ
tick q n = cond (eqb q.slot 1) (suc n) n

-- The due slot of block i after a header in frame x with countdown f: slot 1 of the layout's frame.
abbrev pub due : ℕ → ℕ → ℕ → Place
due x f i = record { frame = due_frame x f i; slot = 1 }

-- No header fields, no SCH/H, and nothing lost.
abbrev pub no_fields : Fields
no_fields = blocks.no_fields

abbrev pub no_raw : Raw
no_raw = record { high = 0; low = 0 }

abbrev pub no_loss : Lost
no_loss = record { source = 0; message = 0; bits = 0 }

-- A well-formed header: its SCH/H but for the countdown, whose two bits are 0 here; whether it is for this unit; what
-- it reads as.
pub record Header : Type 0 where
  pub raw : Raw
  pub for_us : Bool
  pub fields : Fields
  pub bits : List Bool

-- What a report brings, once read. A block that reads with a fault is `nothing`.
-- `fragmented h more f`: the slot count is more + 1, so that more DMAC-FRAG blocks are due, and then one DMAC-END; f is
-- the countdown.
pub data Heard : Type 0 where
  nothing : Heard
  fragmented : Header → (more countdown : ℕ) → Heard
  unfragmented : Header → (countdown : ℕ) → Heard
  frag : List Bool → Heard
  end : List Bool → Heard

pub record Report : Type 0 where
  pub place : Place
  pub heard : Heard

-- ---- What a report brings, part by part; zero, and no bits, where it has no such part.

abbrev pub what_in : Heard → What
what_in nothing = Nothing
what_in (fragmented h more f) = Fragmented
what_in (unfragmented h f) = Unfragmented
what_in (frag b) = Frag
what_in (end b) = End

abbrev pub is_fragmented : Heard → Bool
is_fragmented nothing = false
is_fragmented (fragmented h more f) = true
is_fragmented (unfragmented h f) = false
is_fragmented (frag b) = false
is_fragmented (end b) = false

-- Its header, which is for nobody where there is none.
abbrev pub no_header : Header
no_header = record { raw = no_raw; for_us = false; fields = no_fields; bits = [] }

abbrev pub header_in : Heard → Header
header_in nothing = no_header
header_in (fragmented h more f) = h
header_in (unfragmented h f) = h
header_in (frag b) = no_header
header_in (end b) = no_header

abbrev pub more_in : Heard → ℕ
more_in nothing = 0
more_in (fragmented h more f) = more
more_in (unfragmented h f) = 0
more_in (frag b) = 0
more_in (end b) = 0

abbrev pub countdown_in : Heard → ℕ
countdown_in nothing = 0
countdown_in (fragmented h more f) = f
countdown_in (unfragmented h f) = f
countdown_in (frag b) = 0
countdown_in (end b) = 0

-- The message bits, of a header or of a block.
abbrev pub bits_in : Heard → List Bool
bits_in nothing = []
bits_in (fragmented h more f) = h.bits
bits_in (unfragmented h f) = h.bits
bits_in (frag b) = b
bits_in (end b) = b
