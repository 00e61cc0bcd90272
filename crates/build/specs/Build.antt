-- Building a message: its blocks bit for bit (9.1.1, 9.2.2, 9.2.3, 8.5.4.1, 8.5.5.1), and what is refused.
use Rattle.std.specs.Prelude.{Bool, false, List, [], ◌∷◌, ◌++◌, ℕ, zero, suc, ◌+◌, ◌-◌, ◌*◌, ◌≤◌, min, length, take}
use Rattle.std.specs.Prelude.{drop, replicate, Result, Ok, Err}
use Rattle.bits.specs.Bits.{bits_of, bytes_n}
use Rattle.bits.specs.Fill.{filled}
use Rattle.bits.specs.Layout.{Part, parts_with, pack, AllFit}
use Rattle.blocks.specs.Faults.{number_of}
use Rattle.blocks.specs.Sdu.{fill_told, bits_of_message}
use Rattle.blocks.specs.Sync.{sync_parts}
use Rattle.blocks.specs.Header.{Shape, shape, header_layout, sdu_at}
use Rattle.blocks.specs.Continuation.{continuation_parts, block_message, read_continuation}
use Rattle.blocks.specs.Slots.{in_header}
use Rattle.build.specs.Plan.{header_bits, fragmented_for, blocks_for, build_fault}
use Rattle.blocks.specs.declared.fault.Fault.{Fault}
use Rattle.blocks.specs.declared.sync.Sync.{Sync}
use Rattle.blocks.specs.declared.header.Fields.{Fields}
use Rattle.build.specs.declared.Built.{Built}
use Rattle.blocks.specs.declared.continuation.Continuation.{Continuation}

-- ---- The blocks.

-- A DM-SDU's room of so many bits with a message in it, and the four pad bits after it.
abbrev pub room_bits : ℕ → List Bool → List Bool
room_bits room m = filled room m ++ replicate 4 false

abbrev pub shape_for : ℕ → Fields → Shape
shape_for f g = shape f g.destination.kind g.source.kind g.width

-- The elements of SCH/H: fill indication, fragmentation flag, slot count, countdown, fields; reserved bits zero.
abbrev pub header_parts : ℕ → ℕ → ℕ → ℕ → Fields → List Part
header_parts fill f count countdown g =
    parts_with (header_layout (shape_for f g))
    (0 ∷ fill ∷ f ∷ count ∷ countdown ∷ g.destination.kind ∷ g.destination.ssi ∷ g.source.kind ∷ g.source.ssi
    ∷ g.mni ∷ g.message ∷ g.elements ∷ [])

-- SCH/H with these message bits.
abbrev pub header_block : ℕ → ℕ → ℕ → Fields → List Bool → List Bool
header_block f count countdown g m =
    let room = 124 - sdu_at (shape_for f g) in
    pack (header_parts (fill_told room m) f count countdown g) ++ room_bits room m

-- DMAC-FRAG (0) or DMAC-END (1) with these message bits.
abbrev pub continuation_block : ℕ → List Bool → List Bool
continuation_block last m = pack (continuation_parts last (fill_told 264 m)) ++ room_bits 264 m

-- So many blocks, 264 bits to each, all DMAC-FRAG but the last.
abbrev pub last_when : ℕ → ℕ
last_when zero = 1
last_when (suc k) = 0

abbrev pub continuation_blocks : ℕ → List Bool → List Bool
continuation_blocks zero r = []
continuation_blocks (suc k) r = continuation_block (last_when k) (take 264 r) ++ continuation_blocks k (drop 264 r)

-- SCH/S, SCH/H and the continuation blocks, one after another.
unfoldable pub built_bits : Sync → ℕ → Fields → List Bool → List Bool
built_bits y countdown g m =
    let n = length m in
    let k = blocks_for g n in
    let i = in_header (header_bits g) n in
    (pack (sync_parts y) ++ header_block (fragmented_for g n) k countdown g (take i m))
    ++ continuation_blocks k (drop i m)

abbrev pub built_bytes : Sync → ℕ → Fields → List Bool → List ℕ
built_bytes y countdown g m = bytes_n (24 + 34 * blocks_for g (length m)) (built_bits y countdown g m)

-- What a header asks that is written with so many message bits: each number fits its element, and the message its room.
pub record HeaderFits (f count countdown : ℕ) (g : Fields) (inside : ℕ) : Type 0 where
  pub flag : f ≤ 1
  pub parts : AllFit (header_parts 0 f count countdown g)
  pub narrow : g.width ≤ 45
  pub room : sdu_at (shape_for f g) + inside ≤ 124

-- ---- The answer, and the output afterwards.

abbrev pub built_as : ℕ → ℕ → Built
built_as zero k = record { fault = 0; blocks = k }
built_as (suc f) k = record { fault = suc f; blocks = 0 }

-- What an outcome says to C.
abbrev pub answered : Result ℕ Fault → Built
answered (Ok k) = record { fault = 0; blocks = k }
answered (Err f) = record { fault = number_of f; blocks = 0 }

unfoldable pub build_of : Sync → ℕ → Fields → ℕ → ℕ → ℕ → Built
build_of y countdown g n bytes lent = built_as (build_fault y countdown g n bytes lent) (blocks_for g n)

-- The built bytes, and after them what was there; refused, all that was there.
abbrev pub out_as : ℕ → List ℕ → List ℕ → List ℕ
out_as zero bytes old = bytes ++ drop (length bytes) old
out_as (suc f) bytes old = old

unfoldable pub out_of : Sync → ℕ → Fields → ℕ → List ℕ → List ℕ → List ℕ
out_of y countdown g n message old =
    out_as (build_fault y countdown g n (length message) (length old))
    (built_bytes y countdown g (take n (bits_of message))) old

-- ---- The blocks of an output: SCH/S, SCH/H, and so many continuation blocks after them.

abbrev pub sch_s : List ℕ → List ℕ
sch_s out = take 8 out

abbrev pub sch_h : List ℕ → List ℕ
sch_h out = take 16 (drop 8 out)

abbrev pub cut_blocks : ℕ → List ℕ → List (List ℕ)
cut_blocks zero b = []
cut_blocks (suc k) b = take 34 b ∷ cut_blocks k (drop 34 b)

abbrev pub sch_fs : ℕ → List ℕ → List (List ℕ)
sch_fs k out = cut_blocks k (drop 24 out)

-- The message bits of blocks, in order.
abbrev pub block_bits : List (List ℕ) → List (List Bool)
block_bits [] = []
block_bits (s ∷ ss) = bits_of_message (block_message (bits_of s)) ∷ block_bits ss

-- What they read as.
abbrev pub read_all : List (List ℕ) → List Continuation
read_all [] = []
read_all (s ∷ ss) = read_continuation s ∷ read_all ss

-- So many blocks of n message bits as they read: all DMAC-FRAG but the last, 264 bits in each but the last.
abbrev pub expected : ℕ → ℕ → List Continuation
expected zero n = []
expected (suc k) n = record { fault = 0; last = last_when k; first = 4; bits = min 264 n } ∷ expected k (n - 264)
