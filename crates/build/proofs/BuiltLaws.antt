-- The bits and bytes of a built message, block by block. Assumes nothing.
use mathlib.Core.Path.{◌≡◌, sym, ap, ◌∙◌}
use mathlib.Core.Bool.{Bool}
use mathlib.Core.List.{List, ◌++◌, append_assoc}
use Prim.Native.Nat.{ℕ, ◌+◌, ◌-◌, ◌*◌, ◌≤◌}
use native.Mathlib.Omega.{arith}
use lib.ListN.{length, take, drop, length-append, length-take}
use lib.Seq.{take_at, drop_at}
use Rattle.bits.specs.Bits.{bits_of}
use Rattle.bits.specs.Layout.{pack}
use Rattle.bits.proofs.Bytes.{bits_of_take, bits_of_drop, bits_of_append, bits_of_bytes_n}
use Rattle.bits.proofs.Packing.{length_pack}
use Rattle.blocks.specs.Sdu.{fill_told}
use Rattle.blocks.specs.Sync.{sync_parts}
use Rattle.blocks.specs.Header.{sdu_at}
use Rattle.blocks.specs.Slots.{in_header}
use Rattle.build.specs.Plan.{header_bits, fragmented_for, blocks_for}
use Rattle.build.specs.Build.{shape_for, room_bits, header_parts, header_block, continuation_blocks, built_bits}
use Rattle.build.specs.Build.{built_bytes, sch_s, sch_h}
use Rattle.blocks.specs.declared.sync.Sync.{Sync}
use Rattle.blocks.specs.declared.header.Fields.{Fields}
use Rattle.build.proofs.BuildLaws.{length_room_bits, length_blocks}
use Rattle.build.proofs.RangeLaws.{InRange, header_fits, inside_le}

pub length_sync : (y : Sync) → length (pack (sync_parts y)) ≡ 64
length_sync y = length_pack (sync_parts y)

pub length_header : (f count countdown : ℕ) (g : Fields) (m : List Bool) → sdu_at (shape_for f g) + length m ≤ 124
    → length (header_block f count countdown g m) ≡ 128
length_header f count countdown g m h =
    let room = 124 - sdu_at (shape_for f g) in
    let p = header_parts (fill_told room m) f count countdown g in
    length-append (pack p) (room_bits room m) ∙ omega (arith, length_pack p, length_room_bits room m (omega arith))

module _ {y : Sync} {countdown : ℕ} {g : Fields} (m : List Bool) {bytes lent : ℕ}
    (k : InRange y countdown g (length m) bytes lent) where
  abbrev sync : List Bool
  sync = pack (sync_parts y)

  abbrev i : ℕ
  i = in_header (header_bits g) (length m)

  abbrev header : List Bool
  header = header_block (fragmented_for g (length m)) (blocks_for g (length m)) countdown g (take i m)

  abbrev blocks : List Bool
  blocks = continuation_blocks (blocks_for g (length m)) (drop i m)

  pub inside_length : length (take i m) ≡ i
  inside_length = let l = inside_le k in rw (length-take i m) (omega arith)

  pub header_length : length header ≡ 128
  header_length =
      length_header (fragmented_for g (length m)) (blocks_for g (length m)) countdown g (take i m)
      (rw inside_length (header_fits k).room)

  pub front_length : length (sync ++ header) ≡ 192
  front_length = length-append sync header ∙ omega (arith, length_sync y, header_length)

  pub built_length : length (built_bits y countdown g m) ≡ 8 * (24 + 34 * blocks_for g (length m))
  unfolding built_bits
  built_length =
      length-append (sync ++ header) blocks
      ∙ omega (arith, front_length, length_blocks (blocks_for g (length m)) (drop i m))

  -- ---- an output that starts with the built bytes

  module _ (rest : List ℕ) where
    abbrev out : List ℕ
    out = built_bytes y countdown g m ++ rest

    out_bits : bits_of out ≡ sync ++ (header ++ (blocks ++ bits_of rest))
    unfolding built_bits
    out_bits =
        bits_of_append (built_bytes y countdown g m) rest
        ∙ ap (λ (x : List Bool). x ++ bits_of rest)
        (bits_of_bytes_n (24 + 34 * blocks_for g (length m)) (built_bits y countdown g m) built_length)
        ∙ append_assoc (sync ++ header) blocks (bits_of rest)
        ∙ append_assoc sync header (blocks ++ bits_of rest)

    pub sync_bits : bits_of (sch_s out) ≡ sync
    sync_bits =
        bits_of_take 8 out ∙ ap (take 64) out_bits
        ∙ take_at sync (header ++ (blocks ++ bits_of rest)) 64 (length_sync y)

    pub header_bits_lem : bits_of (sch_h out) ≡ header
    header_bits_lem =
        bits_of_take 16 (drop 8 out)
        ∙ ap (take 128)
        (bits_of_drop 8 out ∙ ap (drop 64) out_bits
        ∙ drop_at sync (header ++ (blocks ++ bits_of rest)) 64 (length_sync y))
        ∙ take_at header (blocks ++ bits_of rest) 128 header_length

    pub blocks_bits : bits_of (drop 24 out) ≡ blocks ++ bits_of rest
    blocks_bits =
        bits_of_drop 24 out
        ∙ ap (drop 192) (out_bits ∙ sym (append_assoc sync header (blocks ++ bits_of rest)))
        ∙ drop_at (sync ++ header) (blocks ++ bits_of rest) 192 front_length
