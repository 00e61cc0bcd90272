-- What a build is refused for (8, 9, 13, 14 in the document's words), and how its message is cut (8.5.4.1).
use Rattle.std.specs.Prelude.{true, cond, List, [], ◌∷◌, ◌++◌, ℕ, zero, suc, ◌+◌, ◌*◌, ◌^◌, ltb, leb, Result, Ok, Err}
use Rattle.blocks.specs.Faults.{unless, first_of, number_of}
use Rattle.blocks.specs.declared.fault.Fault.{Fault}
use Rattle.blocks.specs.Widths.{entry_of, run_fits}
use Rattle.blocks.specs.Header.{shape, address_width, sdu_at}
use Rattle.blocks.specs.Slots.{fits_header, in_header, block_count}
use Rattle.blocks.specs.declared.sync.Sync.{Sync}
use Rattle.blocks.specs.declared.header.Fields.{Fields}
use Rattle.build.specs.declared.plan.Plan.{Plan}

-- The header's bits without the slot count; whether the message goes into the header; the number of continuation
-- blocks.
abbrev pub header_bits : Fields → ℕ
header_bits g = sdu_at (shape 0 g.destination.kind g.source.kind g.width)

abbrev pub fragmented_for : Fields → ℕ → ℕ
fragmented_for g n = cond (fits_header (header_bits g) n) 0 1

abbrev pub blocks_for : Fields → ℕ → ℕ
blocks_for g n = block_count (header_bits g) n

-- ---- The refusals, in their order: 3, 7, 13, 8, 9, 14, 1.

-- 3, 7, and 13 for the numbers that are held to a field's width alone.
abbrev pub number_rules : ℕ → ℕ → ℕ → ℕ → ℕ → ℕ → ℕ → List ℕ
number_rules system frame usage slot countdown mni message =
    unless (leb 10 system) 3 ∷
    unless (leb system 15) 3 ∷
    unless (leb 1 frame) 7 ∷
    unless (leb frame 18) 7 ∷
    unless (leb usage 3) 13 ∷
    unless (leb slot 3) 13 ∷
    unless (leb countdown 3) 13 ∷
    unless (ltb mni (2 ^ 24)) 13 ∷
    unless (leb message 31) 13 ∷
    []

-- 13: an address type, and its address: an absent one is 0.
abbrev pub address_rules : ℕ → ℕ → List ℕ
address_rules kind ssi = unless (leb kind 3) 13 ∷ unless (ltb ssi (2 ^ address_width kind)) 13 ∷ []

-- 13: the run of elements is the table's, and the bits are lent.
abbrev pub element_rules : ℕ → ℕ → ℕ → ℕ → ℕ → List ℕ
element_rules message width elements n bytes =
    unless (run_fits message width elements) 13 ∷ unless (leb n (8 * bytes)) 13 ∷ []

-- 8 and 9: the header, which is measured with its slot count where the message does not fit it.
abbrev pub header_rules : ℕ → ℕ → ℕ → ℕ → ℕ → List ℕ
header_rules to from entry h n =
    unless (leb to 2) 8 ∷
    unless (leb from 2) 8 ∷
    unless (leb entry 254) 9 ∷
    unless (cond (fits_header h n) true (leb h 120)) 9 ∷
    []

-- 14 and 1: the continuation blocks, and the output.
abbrev pub length_rules : ℕ → ℕ → ℕ → List ℕ
length_rules h n lent =
    unless (leb (block_count h n) 15) 14 ∷ unless (leb (24 + 34 * block_count h n) lent) 1 ∷ []

-- A build of n of the lent message's bits into a lent output of so many bytes.
abbrev pub build_checks : Sync → ℕ → Fields → ℕ → ℕ → ℕ → List ℕ
build_checks y countdown g n bytes lent =
    let d = g.destination in
    let s = g.source in
    number_rules y.system y.frame y.usage y.slot countdown g.mni g.message ++
    (address_rules d.kind d.ssi ++
    (address_rules s.kind s.ssi ++
    (element_rules g.message g.width g.elements n bytes ++
    (header_rules d.kind s.kind (entry_of g.message).width (header_bits g) n ++
    length_rules (header_bits g) n lent))))

unfoldable pub build_fault : Sync → ℕ → Fields → ℕ → ℕ → ℕ → ℕ
build_fault y countdown g n bytes lent = first_of (build_checks y countdown g n bytes lent)

-- ---- What is planned: the fragmentation flag, the bits in the header, the number of continuation blocks; or the
-- fault.

pub record Planned : Type 0 where
  pub fault : ℕ
  pub fragmented : ℕ
  pub inside : ℕ
  pub blocks : ℕ

abbrev pub no_plan : ℕ → Planned
no_plan fault = record { fault = fault; fragmented = 0; inside = 0; blocks = 0 }

-- What an answer of `planned` says: refused, all but the fault is 0.
abbrev pub answered : Result Plan Fault → Planned
answered (Ok p) = record { fault = 0; fragmented = cond p.fragmented 1 0; inside = p.inside; blocks = p.blocks }
answered (Err f) = no_plan (number_of f)

abbrev pub plan_as : ℕ → ℕ → ℕ → Planned
plan_as zero h n =
    record { fault = 0; fragmented = cond (fits_header h n) 0 1; inside = in_header h n; blocks = block_count h n }
plan_as (suc f) h n = no_plan (suc f)

unfoldable pub plan_of : ℕ → ℕ → ℕ → ℕ → ℕ → ℕ → Planned
plan_of to from entry h n lent = plan_as (first_of (header_rules to from entry h n ++ length_rules h n lent)) h n

unfoldable pub planned_of : Sync → ℕ → Fields → ℕ → ℕ → ℕ → Planned
planned_of y countdown g n bytes lent = plan_as (build_fault y countdown g n bytes lent) (header_bits g) n
