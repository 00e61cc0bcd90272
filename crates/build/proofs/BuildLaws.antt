-- What the writes of a build make together. Assumes nothing.
use mathlib.Core.Path.{◌≡◌, refl, sym, ap, ap₂, ◌∙◌}
use mathlib.Core.Bool.{Bool, true, false, cond}
use mathlib.Core.List.{List, ◌++◌}
use Prim.Native.Nat.{ℕ, zero, suc, ◌+◌, ◌-◌, ◌*◌, ◌≤◌, ◌<◌, min}
use native.Mathlib.Omega.{arith}
use lib.Dec.{eqb, ltb, leb}
use lib.ListN.{length, take, drop, replicate, length-append, length-take, length-drop, drop_of_length-le}
use lib.Seq.{take_all, take-length, drop-length, drop-drop}
use native.Mathlib.Nat.{min-le_left}
use borrow.Author.Tests.{eq-eqb, ne_eqb, leb-true, leb-false}
use mir.Val.{bool_byte}
use Rattle.bits.specs.Bits.{bits_n, over}
use Rattle.bits.specs.Fill.{fill_bits, filled}
use Rattle.bits.specs.Layout.{pack, AllFit, AllNarrow}
use Rattle.bits.proofs.Numbers.{bits_n_zero, take_of_drop}
use Rattle.bits.proofs.Over.{over_over}
use Rattle.bits.proofs.Filling.{length_fill_bits, length_filled}
use Rattle.bits.proofs.Packing.{length_pack}
use Rattle.blocks.specs.Sdu.{fill_told}
use Rattle.blocks.specs.Continuation.{continuation_parts}
use Rattle.build.specs.Build.{room_bits, shape_for, header_parts, header_block, continuation_block, last_when}
use Rattle.build.specs.Build.{continuation_blocks}
use Rattle.build.specs.Build.{HeaderFits}
use Rattle.blocks.specs.Header.{header_layout, sdu_at}
use Rattle.blocks.proofs.HeaderLaws.{address_width_le}
use Rattle.blocks.specs.declared.header.Fields.{Fields}

-- a flag, as Rust makes a number of it
pub flag_number : (b : Bool) → bool_byte b ≡ cond b 1 0
flag_number true = refl
flag_number false = refl

-- a part of a message
pub length_part : (count from : ℕ) (b : List Bool) → from + count ≤ length b → length (take count (drop from b)) ≡ count
length_part count from b h = rw (length-take count (drop from b), length-drop from b) (omega arith)

-- ---- the room: message, fill, pad

pub room_put : (at count room : ℕ) (m b : List Bool) → length m ≡ count → count ≤ room → at + room + 4 ≤ length b
    → over (at + room) (bits_n 4 0) (over (at + count) (fill_bits (at + room - (at + count))) (over at m b))
    ≡ over at (room_bits room m) b
unfolding filled
room_put at count room m b e h l =
    let f = fill_bits (room - length m) in
    let lf : length f ≡ room - length m = length_fill_bits (room - length m) in
    let lm : length (m ++ f) ≡ room = length-append m f ∙ omega arith in
    let s : at + room - (at + count) ≡ room - length m = omega arith in
    rw (s, bits_n_zero 4, ← e)
    (ap (over (at + room) (replicate 4 false)) (over_over at m f b (omega arith))
    ∙ ap (λ (x : ℕ). over (at + x) (replicate 4 false) (over at (m ++ f) b)) (sym lm)
    ∙ over_over at (m ++ f) (replicate 4 false) b (omega arith))

pub length_room_bits : (room : ℕ) (m : List Bool) → length m ≤ room → length (room_bits room m) ≡ room + 4
length_room_bits room m h =
    length-append (filled room m) (replicate 4 false) ∙ ap (λ (x : ℕ). x + 4) (length_filled room m h)

pub told_le : (t : Bool) → cond t 1 0 ≤ 1
told_le true = omega arith
told_le false = omega arith

-- ---- a continuation block

pub block_put : (at last count fill : ℕ) (m b : List Bool) → length m ≡ count → fill ≡ cond (ltb count 264) 1 0
    → count ≤ 264 → at + 272 ≤ length b
    → over (at + 4) (room_bits 264 m) (over at (pack (continuation_parts last fill)) b)
    ≡ over at (continuation_block last m) b
block_put at last count fill m b e q h l =
    let p = continuation_parts last fill in
    let lp : length (pack p) ≡ 4 = length_pack p in
    let lr : length (room_bits 264 m) ≡ 268 = length_room_bits 264 m (omega arith) in
    ap (λ (x : ℕ). over (at + x) (room_bits 264 m) (over at (pack p) b)) (sym lp)
    ∙ over_over at (pack p) (room_bits 264 m) b (omega arith)
    ∙ ap (λ (x : ℕ). over at (pack (continuation_parts last x) ++ room_bits 264 m) b)
    (q ∙ ap (λ (x : ℕ). cond (ltb x 264) 1 0) (sym e))

-- ---- the continuation blocks, one after the other

pub length_block : (last : ℕ) (m : List Bool) → length m ≤ 264 → length (continuation_block last m) ≡ 272
length_block last m h =
    let p = continuation_parts last (fill_told 264 m) in
    length-append (pack p) (room_bits 264 m) ∙ ap₂ (λ (x y : ℕ). x + y) (length_pack p) (length_room_bits 264 m h)

pub take_le : (k : ℕ) (l : List Bool) → length (take k l) ≤ k
take_le k l = rw (length-take k l) (min-le_left k (length l))

pub length_blocks : (k : ℕ) (r : List Bool) → length (continuation_blocks k r) ≡ 272 * k
length_blocks zero r = refl
length_blocks (suc k) r =
    let b = continuation_block (last_when k) (take 264 r) in
    length-append b (continuation_blocks k (drop 264 r))
    ∙ omega (arith, length_block (last_when k) (take 264 r) (take_le 264 r), length_blocks k (drop 264 r))

-- the first k of a list that has fewer are all of it, and none is left
least_when : (t : Bool) (k : ℕ) (l : List Bool) → leb k (length l) ≡ t
    → (take (min (length l) k) l ≡ take k l) × (drop (min (length l) k) l ≡ drop k l)
least_when true k l e =
    let h = leb-true k (length l) e in
    let m : min (length l) k ≡ k = omega arith in
    (rw m refl, rw m refl)
least_when false k l e =
    let h = leb-false k (length l) e in
    let m : min (length l) k ≡ length l = omega arith in (
      rw m (take-length l ∙ sym (take_all k l (omega arith))),
      rw m (drop-length l ∙ sym (drop_of_length-le l {i = k} (omega arith))),
    )

least : (k : ℕ) (l : List Bool) → (take (min (length l) k) l ≡ take k l) × (drop (min (length l) k) l ≡ drop k l)
least k l = least_when (leb k (length l)) k l refl

last_is : (k left : ℕ) → left ≡ suc k → cond (eqb left 1) 1 0 ≡ last_when k
last_is zero left e = rw e refl
last_is (suc k) left e = rw (ne_eqb left 1 (omega arith)) refl

-- the last block by its place
last_at : (i blocks k : ℕ) → blocks ≡ i + 1 + k → cond (eqb (i + 1) blocks) 1 0 ≡ last_when k
last_at i blocks zero e = rw (eq-eqb (i + 1) blocks (omega arith)) refl
last_at i blocks (suc k) e = rw (ne_eqb (i + 1) blocks (omega arith)) refl

module _ (b : List Bool) (n from count left k last at : ℕ) (e : left ≡ suc k) (q : count ≡ min (n - from) 264)
    (w : last ≡ cond (eqb left 1) 1 0)
    (f : from ≤ n) (l : n ≤ length b) where
  abbrev rest : List Bool
  rest = drop from (take n b)

  rest_length : length rest ≡ n - from
  rest_length = rw (length-drop from (take n b), length-take n b) (omega arith)

  rest_first : take 264 rest ≡ take count (drop from b)
  rest_first = sym (least 264 rest).0 ∙ rw (rest_length, ← q) (take_of_drop count from n b (omega arith))

  rest_rest : drop 264 rest ≡ drop (from + count) (take n b)
  rest_rest = sym (least 264 rest).1 ∙ rw (rest_length, ← q) (drop-drop count from (take n b))

  -- with one block put, the ones after it are still to come
  pub blocks_turn : (old new : List Bool) → at + 272 * left ≤ length old
      → new ≡ over at (continuation_block last (take count (drop from b))) old
      → over (at + 272) (continuation_blocks k (drop (from + count) (take n b))) new
      ≡ over at (continuation_blocks left rest) old
  blocks_turn old new h p =
      let m = take count (drop from b) in
      let x = continuation_block last m in
      let lm : length m ≤ 264 = rw (← rest_first) (take_le 264 rest) in
      let lx : length x ≡ 272 = length_block last m lm in
      let z = continuation_blocks k (drop (from + count) (take n b)) in
      let lz : length z ≡ 272 * k = length_blocks k (drop (from + count) (take n b)) in
      let g : continuation_blocks left rest ≡ x ++ z =
      rw e (rw (rest_first, rest_rest, ← last_is k left e, ← w) refl) in
      rw (p, g) (ap (λ (i : ℕ). over (at + i) z (over at x old)) (sym lx) ∙ over_over at x z old (omega arith))

-- so with the blocks after the header, counted from the first
module _ (b : List Bool) (n from count i blocks : ℕ) (e : i < blocks) (q : count ≡ min (n - from) 264) (f : from ≤ n)
    (l : n ≤ length b) where
  pub placed_turn : (old new : List Bool) → 192 + 272 * blocks ≤ length old
      → new ≡ over (192 + 272 * i) (continuation_block (cond (eqb (i + 1) blocks) 1 0) (take count (drop from b))) old
      → over (192 + 272 * (i + 1)) (continuation_blocks (blocks - (i + 1)) (drop (from + count) (take n b))) new
      ≡ over (192 + 272 * i) (continuation_blocks (blocks - i) (drop from (take n b))) old
  placed_turn old new h p =
      let at = 192 + 272 * i in
      let k = blocks - (i + 1) in
      let s : blocks - i ≡ suc k = omega arith in
      let last : ℕ = cond (eqb (i + 1) blocks) 1 0 in
      let w : last ≡ cond (eqb (blocks - i) 1) 1 0 =
      last_at i blocks k (omega arith) ∙ sym (last_is k (blocks - i) s) in
      let t : 192 + 272 * (i + 1) ≡ at + 272 = omega arith in
      rw t (blocks_turn b n from count (blocks - i) k last at s q w f l old new (omega arith) p)

-- ---- SCH/H

-- an indication of 0 or 1 fits its element
pub fill_fits : (f count countdown fill : ℕ) (g : Fields) → fill ≤ 1 → AllFit (header_parts 0 f count countdown g)
    → AllFit (header_parts fill f count countdown g)
fill_fits f count countdown fill g h (reserved, (none, others)) = (reserved, (omega arith, others))

module _ (f count countdown inside : ℕ) (g : Fields) (k : HeaderFits f count countdown g inside) where
  -- no element is wider than one `put` takes
  pub narrow_parts : AllNarrow (header_layout (shape_for f g))
  narrow_parts =
      let f = k.flag in
      let w = k.narrow in
      omega (arith, address_width_le g.destination.kind, address_width_le g.source.kind)

  pub header_put : (fill : ℕ) (m b : List Bool) → let first = sdu_at (shape_for f g) in
      let parts = header_parts fill f count countdown g in
      length m ≡ inside → fill ≡ cond (ltb inside (124 - first)) 1 0 → 192 ≤ length b
      → over (64 + first) (room_bits (124 - first) m) (over 64 (pack parts) b)
      ≡ over 64 (header_block f count countdown g m) b
  header_put fill m b e z l =
      let first = sdu_at (shape_for f g) in
      let parts = header_parts fill f count countdown g in
      let lp : length (pack parts) ≡ first = length_pack parts ∙ omega arith in
      let h = k.room in
      let lr : length (room_bits (124 - first) m) ≡ 124 - first + 4 = length_room_bits (124 - first) m (omega arith) in
      ap (λ (x : ℕ). over (64 + x) (room_bits (124 - first) m) (over 64 (pack parts) b)) (sym lp)
      ∙ over_over 64 (pack parts) (room_bits (124 - first) m) b (omega arith)
      ∙ rw (z, ← e) refl
