-- SCH/S (9.1.1, table 21).
use Rattle.std.specs.Prelude.{Bool, List, [], ◌∷◌, ℕ, eqb, leb, length}
use Rattle.bits.specs.Bits.{bits_of, field}
use Rattle.bits.specs.Layout.{Part, parts_with, element}
use Rattle.blocks.specs.Faults.{unless}
use Rattle.blocks.specs.declared.sync.Sync.{Sync}

-- Its elements' widths, in order.
abbrev pub sync_layout : List ℕ
sync_layout =
    4 ∷  -- 0 system code, 9.3.29
    2 ∷  -- 1 SYNC PDU type, 9.3.28
    2 ∷  -- 2 communication type, 9.3.3
    2 ∷  -- 3 reserved: repeater or gateway working
    2 ∷  -- 4 A/B channel usage, 9.3.1
    2 ∷  -- 5 slot number, 9.3.25
    5 ∷  -- 6 frame number, 9.3.11
    2 ∷  -- 7 air interface encryption state, 9.3.2
    39 ∷  -- 8 reserved, with encryption off
    4 ∷  -- 9 pad
    []

-- The block of these fields: DMAC-SYNC (00), direct MS-MS (00), encryption off (00), reserved and pad bits zero.
abbrev pub sync_parts : Sync → List Part
sync_parts y = parts_with sync_layout (y.system ∷ 0 ∷ 0 ∷ 0 ∷ y.usage ∷ y.slot ∷ y.frame ∷ 0 ∷ 0 ∷ 0 ∷ [])

-- The fields as they stand in a block.
unfoldable pub sync_of : List Bool → Sync
sync_of b =
    record {
      system = element sync_layout 0 b;
      usage = element sync_layout 4 b;
      slot = element sync_layout 5 b;
      frame = element sync_layout 6 b;
    }

-- Faults 2 to 7, in their order: pad bits of SCH/S and of SCH/H, system code of direct mode (10 to 15), SYNC PDU type,
-- communication type, encryption, frame number.
abbrev pub sync_rules : ℕ → ℕ → ℕ → ℕ → ℕ → ℕ → ℕ → List ℕ
sync_rules pad other system pdu communication encryption frame =
    unless (eqb pad 0) 2 ∷
    unless (eqb other 0) 2 ∷
    unless (leb 10 system) 3 ∷
    unless (eqb pdu 0) 4 ∷
    unless (eqb communication 0) 5 ∷
    unless (eqb encryption 0) 6 ∷
    unless (leb 1 frame) 7 ∷
    unless (leb frame 18) 7 ∷
    []

-- Faults 1 to 7 of a header's two lent blocks.
unfoldable pub sync_checks : List ℕ → List ℕ → List ℕ
sync_checks s h =
    let b = bits_of s in
    unless (eqb (length s) 8) 1 ∷
    unless (eqb (length h) 16) 1 ∷
    sync_rules (element sync_layout 9 b) (field 124 4 (bits_of h)) (element sync_layout 0 b) (element sync_layout 1 b)
    (element sync_layout 2 b) (element sync_layout 7 b)
    (element sync_layout 6 b)
