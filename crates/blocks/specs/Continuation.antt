-- The continuation block: DMAC-FRAG (9.2.2) or DMAC-END (9.2.3) in SCH/F.
use Rattle.std.specs.Prelude.{Bool, List, [], ◌∷◌, ℕ, zero, suc, eqb, length}
use Rattle.std.proofs.Math.Option.{Option}
use Rattle.std.proofs.Math.Seq.{slice}
use Rattle.bits.specs.Bits.{bits_of, field}
use Rattle.bits.specs.Layout.{Part, parts_with, element}
use Rattle.blocks.specs.Faults.{unless, first_of}
use Rattle.blocks.specs.Sdu.{sdu_of, is_there, bits_of_message}
use Rattle.blocks.specs.declared.continuation.Continuation.{Continuation}

-- Its elements' widths, in order. The DM-SDU has the 264 bits after them; after it come four pad bits.
abbrev pub continuation_layout : List ℕ
continuation_layout =
    2 ∷  -- 0 MAC PDU type, 9.3.16
    1 ∷  -- 1 MAC PDU subtype, 9.3.15
    1 ∷  -- 2 fill bit indication, 9.3.8
    []

-- The header of a block: PDU type 01, subtype 0 for DMAC-FRAG and 1 for DMAC-END.
abbrev pub continuation_parts : ℕ → ℕ → List Part
continuation_parts last fill = parts_with continuation_layout (1 ∷ last ∷ fill ∷ [])

-- The message bits in the DM-SDU's room.
abbrev pub block_message : List Bool → Option (List Bool)
block_message b = sdu_of (element continuation_layout 2 b) (slice 4 268 b)

-- Continuations are checked 1, 2, 12, 11.
abbrev pub continuation_checks : List ℕ → List ℕ
continuation_checks s =
    let b = bits_of s in
    unless (eqb (length s) 34) 1 ∷
    unless (eqb (field 268 4 b) 0) 2 ∷
    unless (eqb (element continuation_layout 0 b) 1) 12 ∷
    unless (is_there (block_message b)) 11 ∷
    []

abbrev pub refused_block : ℕ → Continuation
refused_block fault = record { fault = fault; last = 0; first = 0; bits = 0 }

abbrev pub continuation_of : List Bool → Continuation
continuation_of b =
    record {
      fault = 0;
      last = element continuation_layout 1 b;
      first = 4;
      bits = length (bits_of_message (block_message b));
    }

abbrev pub answered : ℕ → Continuation → Continuation
answered zero r = r
answered (suc n) r = refused_block (suc n)

unfoldable pub read_continuation : List ℕ → Continuation
read_continuation s = answered (first_of (continuation_checks s)) (continuation_of (bits_of s))
