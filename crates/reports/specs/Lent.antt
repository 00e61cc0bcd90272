-- A report as lent bytes: what is refused, whom a header is for, and what the report brings once its blocks are read.
use Rattle.std.specs.Prelude.{
  ◌≡◌,
  Bool,
  true,
  false,
  cond,
  ◌&&◌,
  ◌||◌,
  List,
  [],
  ◌∷◌,
  ◌⊎◌,
  ℕ,
  zero,
  suc,
  ◌+◌,
  ◌-◌,
  ◌*◌,
  ◌≤◌,
  eqb,
  leb,
  take,
  drop,
}
use Rattle.bits.specs.Bits.{bits_of, over}
use Rattle.store.specs.Store.{halves}
use Rattle.store.specs.declared.Raw.{Raw}
use Rattle.blocks.specs.Faults.{unless}
use Rattle.blocks.specs.Sdu.{bits_of_message}
use Rattle.blocks.specs.Header.{fragmented_in, body_of, message_of_header, read_reported}
use Rattle.blocks.specs.Continuation.{block_message, read_continuation}
use Rattle.blocks.specs.declared.header.Fields.{Fields}
use Rattle.blocks.specs.declared.header.Header as read
use Rattle.blocks.specs.declared.continuation.Continuation.{Continuation}
use Rattle.history.specs.Slots.{Header, Heard, nothing, fragmented, unfragmented, frag, end}
use Rattle.reports.specs.declared.unit.Settings.{Settings}

-- A report: a frame, a slot, a kind as in the log, and the lent blocks as one run of bytes.
pub record Lent : Type 0 where
  pub frame : ℕ
  pub slot : ℕ
  pub kind : ℕ
  pub blocks : List ℕ

-- What a history is a list of: a report that was heard.
abbrev pub Event : Type 0
Event = Lent

abbrev pub lent : ℕ → ℕ → ℕ → List ℕ → Lent
lent frame slot kind blocks = record { frame = frame; slot = slot; kind = kind; blocks = blocks }

-- Kind 1 brings nothing (0 bytes), 2 an SCH/S with its SCH/H (24), 3 an SCH/F (34).
abbrev pub brought : ℕ → ℕ → Bool
brought kind lent =
    cond (eqb kind 1) (eqb lent 0) (cond (eqb kind 2) (eqb lent 24) (cond (eqb kind 3) (eqb lent 34) false))

-- A slot is 1 or 3.
abbrev pub heard_slot : ℕ → Bool
heard_slot slot = eqb slot 1 || eqb slot 3

-- Reports are refused in the order 15, 16, 1, 17.
abbrev pub report_rules : ℕ → ℕ → ℕ → ℕ → ℕ → List ℕ
report_rules frame slot kind lent buffer =
    unless (leb 1 frame) 15 ∷
    unless (leb frame 18) 15 ∷
    unless (heard_slot slot) 16 ∷
    unless (brought kind lent) 1 ∷
    unless (leb 512 buffer) 17 ∷
    []

-- A header is for this unit when its destination is a true address (9.3.5), its MNI is equal (it is always present),
-- and its destination equals either address (house).
abbrev pub for_unit : Settings → Fields → Bool
for_unit s g =
    eqb g.destination.kind 0 &&
    (eqb g.mni s.mni && (eqb g.destination.ssi s.individual || eqb g.destination.ssi s.group))

-- The bits of an SCH/H but for the countdown, whose two are 0 here. They stand after the fragmentation flag and, where
-- there is one, the slot count; and the same as two numbers.
abbrev pub uncounted : List Bool → List Bool
uncounted b = over (12 + 4 * fragmented_in b) (false ∷ false ∷ []) b

abbrev pub raw_of : List ℕ → Raw
raw_of h = halves (uncounted (bits_of h))

-- A block that reads with a fault counts as nothing heard.
abbrev pub unfaulted : ℕ → Heard → Heard
unfaulted zero x = x
unfaulted (suc n) x = nothing

-- A well-formed header, from its SCH/H and what that reads as.
abbrev pub header_from : Settings → List ℕ → read.Header → Header
header_from s h r =
    let m = bits_of_message (message_of_header (body_of (bits_of h)) (bits_of h)) in
    record { raw = raw_of h; for_us = for_unit s r.fields; fields = r.fields; bits = m }

abbrev pub header_heard : Settings → List ℕ → read.Header → Heard
header_heard s h r =
    let x = header_from s h r in
    unfaulted r.fault
    (cond (eqb r.fragmented 1) (fragmented x (r.count - 1) r.countdown) (unfragmented x r.countdown))

abbrev pub block_heard : List ℕ → Continuation → Heard
block_heard b r =
    let m = bits_of_message (block_message (bits_of b)) in unfaulted r.fault (cond (eqb r.last 1) (end m) (frag m))

-- The SCH/H of a report of kind 2, and its header, as it reads.
abbrev pub sch_h_in : Lent → List ℕ
sch_h_in l = drop 8 l.blocks

abbrev pub header_in_lent : Lent → read.Header
header_in_lent l = read_reported l.frame l.slot (take 8 l.blocks) (sch_h_in l)

unfoldable pub heard : Settings → Lent → Heard
heard s l =
    cond (eqb l.kind 2) (header_heard s (sch_h_in l) (header_in_lent l))
    (cond (eqb l.kind 3) (block_heard l.blocks (read_continuation l.blocks)) nothing)

-- A number that reading the blocks of an accepted report may give, or 0. A report is refused with others: 1, 15 to 17.
pub record OfReading (n : ℕ) : Type 0 where
  pub not_1 : n ≡ 1 → ⊥
  pub known : (n ≤ 12) ⊎ (n ≡ 18)

-- The fault that is reported.
abbrev pub fault_in : Lent → ℕ
fault_in l = cond (eqb l.kind 2) (header_in_lent l).fault (cond (eqb l.kind 3) (read_continuation l.blocks).fault 0)

-- The report brings a well-formed unfragmented header for a unit with these settings.
pub record BringsShort (s : Settings) (l : Lent) : Type 0 where
  pub kind : l.kind ≡ 2
  pub well : (header_in_lent l).fault ≡ 0
  pub unfragmented : (header_in_lent l).fragmented ≡ 0
  pub for_us : for_unit s (header_in_lent l).fields ≡ true
