-- Reading the blocks that were built gives back what they were built from. Assumes nothing.
use mathlib.Core.Path.{◌≡◌, refl, sym, ap, ◌∙◌}
use mathlib.Core.Bool.{Bool, false}
use mathlib.Core.List.{List, ◌++◌, append_assoc}
use mathlib.Core.Option.{some}
use Prim.Native.Nat.{ℕ, ◌+◌, ◌-◌, ◌≤◌}
use native.Mathlib.Omega.{arith}
use lib.Dec.{ltb}
use lib.ListN.{length, replicate, get_or, length-append}
use lib.Seq.{take_at, drop_at, slice}
use borrow.Author.Tests.{eq-eqb, le-leb}
use Rattle.bits.specs.Bits.{num, bit, bits_n, bits_of, field}
use Rattle.bits.specs.Fill.{filled}
use Rattle.bits.specs.Layout.{Part, part, pack, parts_in, AllFit}
use Rattle.bits.proofs.Packing.{length_pack, read_pack}
use Rattle.bits.proofs.Filling.{length_filled}
use Rattle.blocks.specs.Faults.{first_of}
use Rattle.blocks.specs.Widths.{entry_of, width_of}
use Rattle.blocks.specs.Sdu.{sdu_of, fill_told, bits_of_message}
use Rattle.blocks.specs.Sync.{sync_parts, sync_of, sync_checks}
use Rattle.blocks.specs.Header.{sdu_at, body_of, message_of_header, body_checks, header_of, answered, read_header}
use Rattle.blocks.specs.Continuation.{continuation_layout, continuation_parts, block_message, read_continuation}
use Rattle.build.specs.Build.{room_bits, shape_for, header_parts, header_block, continuation_block}
use Rattle.blocks.specs.declared.sync.Sync.{Sync}
use Rattle.blocks.specs.declared.header.Fields.{Fields}
use Rattle.blocks.specs.declared.header.Header.{Header}
use Rattle.blocks.proofs.FaultLaws.{chain_none}
use Rattle.blocks.proofs.RoomLaws.{sdu_filled}
use Rattle.build.proofs.BuildLaws.{told_le}
use Rattle.build.proofs.ReadBackLaws.{sync_element, sync_back, body_back, elements_back, room_back, pad_back}

-- what a header asks that is to read well
pub record Reads (y : Sync) (f count countdown : ℕ) (g : Fields) (m : List Bool) : Type 0 where
  pub sync : AllFit (sync_parts y)
  pub system : 10 ≤ y.system
  pub first_frame : 1 ≤ y.frame
  pub last_frame : y.frame ≤ 18
  pub parts : AllFit (header_parts (fill_told (124 - sdu_at (shape_for f g)) m) f count countdown g)
  pub counted : f ≤ count
  pub to : g.destination.kind ≤ 2
  pub from : g.source.kind ≤ 2
  pub table : width_of (entry_of g.message) (bits_n g.width g.elements) ≡ g.width
  pub narrow : g.width ≤ 45
  pub room : sdu_at (shape_for f g) + length m ≤ 124

module _ {y : Sync} {f count countdown : ℕ} {g : Fields} {m : List Bool} (k : Reads y f count countdown g m)
    (s h : List ℕ)
    (ls : length s ≡ 8) (lh : length h ≡ 16) (bs : bits_of s ≡ pack (sync_parts y))
    (bh : bits_of h ≡ header_block f count countdown g m) where
  sync_none : first_of (sync_checks s h) ≡ 0
  unfolding sync_checks
  sync_none =
      rw (
        eq-eqb (length s) 8 ls,
        eq-eqb (length h) 16 lh,
        bs,
        bh,
        sync_element y k.sync 9,
        pad_back f count countdown g m k.parts k.room,
        sync_element y k.sync 0,
        sync_element y k.sync 1,
        sync_element y k.sync 2,
        sync_element y k.sync 7,
        sync_element y k.sync 6,
        le-leb 10 y.system k.system,
        le-leb 1 y.frame k.first_frame,
        le-leb y.frame 18 k.last_frame,
      ) refl

  abbrev first : ℕ
  first = sdu_at (shape_for f g)

  message_there : sdu_of (fill_told (124 - first) m) (slice first 124 (header_block f count countdown g m)) ≡ some m
  message_there =
      rw (room_back f count countdown g m k.parts k.room)
      (sdu_filled (124 - first) m (let r = k.room in omega arith))

  body_none : first_of (body_checks (bits_of h)) ≡ 0
  body_none =
      rw (
        bh,
        body_back f count countdown g m k.parts k.room k.table,
        le-leb f count k.counted,
        le-leb g.destination.kind 2 k.to,
        le-leb g.source.kind 2 k.from,
        le-leb g.width 254 (let n = k.narrow in omega arith),
        le-leb first 124 (let r = k.room in omega arith),
        message_there,
      ) refl

  abbrev read : Header
  read =
      record {
        fault = 0;
        sync = y;
        fragmented = f;
        count = count;
        countdown = countdown;
        fields = g;
        first = first;
        bits = length m;
      }

  pub header_reads : read_header s h ≡ read
  unfolding read_header
  header_reads =
      ap (λ (n : ℕ). answered n (header_of (sync_of (bits_of s)) (bits_of h)))
      (chain_none (sync_checks s h) (body_checks (bits_of h)) sync_none ∙ body_none)
      ∙ rw (
        bs,
        bh,
        sync_back y k.sync,
        body_back f count countdown g m k.parts k.room k.table,
        elements_back f count countdown g m k.parts k.room,
        message_there,
      ) refl

  -- the message bits of the header are those that were put into it
  pub header_message_lem : bits_of_message (message_of_header (body_of (bits_of h)) (bits_of h)) ≡ m
  header_message_lem = rw (bh, body_back f count countdown g m k.parts k.room k.table, message_there) refl

-- ---- a continuation block

module _ (last : ℕ) (m : List Bool) (h : last ≤ 1) (l : length m ≤ 264) (s : List ℕ) (ls : length s ≡ 34)
    (bs : bits_of s ≡ continuation_block last m) where
  abbrev fill : ℕ
  fill = fill_told 264 m

  abbrev ps : List Part
  ps = continuation_parts last fill

  fill_le : fill ≤ 1
  fill_le = told_le (ltb (length m) 264)

  block_parts : parts_in 0 continuation_layout (continuation_block last m) ≡ ps
  block_parts =
      let z = fill_le in
      read_pack 0 ps (continuation_block last m) (omega arith, (omega arith, (omega arith, tt)))
      (take_at (pack ps) (room_bits 264 m) 4 (length_pack ps))

  block_element : (k : ℕ)
      → (get_or (parts_in 0 continuation_layout (continuation_block last m)) k (part 0 0)).value
      ≡ (get_or ps k (part 0 0)).value
  block_element k = ap (λ (p : List Part). (get_or p k (part 0 0)).value) block_parts

  block_whole : continuation_block last m ≡ (pack ps ++ filled 264 m) ++ replicate 4 false
  block_whole = sym (append_assoc (pack ps) (filled 264 m) (replicate 4 false))

  length_whole : length (pack ps ++ filled 264 m) ≡ 268
  length_whole = length-append (pack ps) (filled 264 m) ∙ omega (arith, length_pack ps, length_filled 264 m l)

  block_room : slice 4 268 (continuation_block last m) ≡ filled 264 m
  block_room =
      rw (block_whole, take_at (pack ps ++ filled 264 m) (replicate 4 false) 268 length_whole)
      (drop_at (pack ps) (filled 264 m) 4 (length_pack ps))

  block_pad : field 268 4 (continuation_block last m) ≡ 0
  unfolding num bit
  block_pad = rw (block_whole, drop_at (pack ps ++ filled 264 m) (replicate 4 false) 268 length_whole) refl

  pub block_message_lem : block_message (bits_of s) ≡ some m
  block_message_lem = rw (bs, block_element 2, block_room) (sdu_filled 264 m l)

  pub block_reads : read_continuation s ≡ record { fault = 0; last = last; first = 4; bits = length m }
  unfolding read_continuation
  block_reads =
      rw (eq-eqb (length s) 34 ls, block_message_lem) (rw (bs, block_pad, block_element 0, block_element 1) refl)
