-- What a block that reads well holds. Assumes nothing.
use mathlib.Core.Path.{◌≡◌, refl, sym, ap, ◌∙◌, subst}
use mathlib.Core.Bool.{Bool, true}
use mathlib.Core.List.{List, ◌++◌}
use Prim.Native.Nat.{ℕ, zero, suc, ◌+◌, ◌-◌, ◌*◌, ◌^◌, ◌≤◌, ◌<◌}
use native.Mathlib.Omega.{arith}
use lib.ListN.{length, take, drop}
use lib.Seq.{slice, length-slice, take_at}
use Rattle.bits.specs.Bits.{num, bits_of, field}
use Rattle.bits.specs.Fill.{fill_bits, filled}
use Rattle.bits.proofs.Bytes.{length_bits_of}
use Rattle.bits.proofs.Numbers.{num_take_lt, fits_in, take_of_drop}
use Rattle.blocks.specs.Faults.{first_of}
use Rattle.blocks.specs.Sdu.{sdu_of, is_there, bits_of_message}
use Rattle.blocks.specs.Sync.{sync_of, sync_checks}
use Rattle.blocks.specs.declared.sync.Sync.{Sync}
use Rattle.blocks.specs.Header.{
  fragmented_in,
  body_of,
  message_of_header,
  body_checks,
  place_rules,
  reported_fault,
  header_of,
}
use Rattle.blocks.specs.Header.{answered, read_reported}
use Rattle.blocks.specs.Continuation.{block_message, continuation_checks, continuation_of, read_continuation}
use Rattle.blocks.specs.Continuation as block
use Rattle.blocks.specs.declared.header.Header as read
use Rattle.blocks.specs.declared.continuation.Continuation.{Continuation}
use Rattle.blocks.proofs.FaultLaws.{by_rules, holds, eq_holds, chain_split}
use Rattle.blocks.proofs.RuleLaws.{sync_holds, BodyHolds, body_holds}
use Rattle.blocks.proofs.RoomLaws.{refill}

-- a field of at most k bits
field_lt : (k at w : ℕ) (b : List Bool) → w ≤ k → field at w b < 2 ^ k
field_lt k at w b h = fits_in k (num_take_lt w (drop at b)) h

-- the message in a room is the room's first bits
first_bits : (fill : ℕ) (room : List Bool) → fill ≤ 1 → is_there (sdu_of fill room) ≡ true
    → (take (length (bits_of_message (sdu_of fill room))) room ≡ bits_of_message (sdu_of fill room))
    × (length (bits_of_message (sdu_of fill room)) ≤ length room)
unfolding filled
first_bits fill room h i =
    let r = refill fill room h i in
    let m = bits_of_message (sdu_of fill room) in
    (ap (take (length m)) r.0 ∙ take_at m (fill_bits (length room - length m)) (length m) refl, r.2)

-- so it stands in the block from the room's first bit on
in_block : (fill from to : ℕ) (b : List Bool) → fill ≤ 1 → from ≤ to → to ≤ length b
    → is_there (sdu_of fill (slice from to b)) ≡ true
    → (take (length (bits_of_message (sdu_of fill (slice from to b)))) (drop from b)
    ≡ bits_of_message (sdu_of fill (slice from to b)))
    × (from + length (bits_of_message (sdu_of fill (slice from to b))) ≤ to)
in_block fill from to b h o k i =
    let r = first_bits fill (slice from to b) h i in
    let n = length (bits_of_message (sdu_of fill (slice from to b))) in
    let l : from + n ≤ to = omega (arith, r.1, length-slice from to b k) in
    (sym (take_of_drop n from to b l) ∙ r.0, l)

-- ---- a header

answer_given : (n : ℕ) (r : read.Header) → (answered n r).fault ≡ 0 → (n ≡ 0) × (answered n r ≡ r)
answer_given zero r e = (refl, refl)
answer_given (suc n) r e = absurd (omega arith)

pub record WellRead (h : List ℕ) (x : read.Header) : Type 0 where
  pub counted : x.fragmented ≤ x.count
  pub alone : x.fragmented ≡ 0 → x.count ≡ 0
  pub slots : x.count ≤ 15
  pub count : x.count ≡ field 12 (4 * fragmented_in (bits_of h)) (bits_of h)
  pub falls : x.countdown ≤ 3
  pub flag : x.fragmented ≡ fragmented_in (bits_of h)
  pub low : x.fragmented ≤ 1
  pub sized : x.bits ≡ length (bits_of_message (message_of_header (body_of (bits_of h)) (bits_of h)))
  pub room : x.first + x.bits ≤ 124
  pub bits :
      take x.bits (drop x.first (bits_of h)) ≡ bits_of_message (message_of_header (body_of (bits_of h)) (bits_of h))
  pub long : length h ≡ 16

header_well : (y : Sync) (h : List ℕ) → length h ≡ 16 → BodyHolds (bits_of h) → WellRead h (header_of y (bits_of h))
unfolding body_of fragmented_in num
header_well y h l k =
    let b = bits_of h in
    let e = body_of b in
    let f = field_lt 1 11 1 b (omega arith) in
    let n = length_bits_of h in
    let r =
    in_block e.fill e.tail.first 124 b (omega (arith, field_lt 1 10 1 b (omega arith))) k.rules.tail.fits
    (omega arith) k.there in
    record {
      counted = k.rules.counted;
      alone = λ z. rw z refl;
      count = refl;
      slots = omega (arith, field_lt 4 12 (4 * fragmented_in b) b (omega arith));
      falls = omega (arith, field_lt 2 (12 + 4 * fragmented_in b) 2 b (omega arith));
      flag = refl;
      low = omega arith;
      sized = refl;
      room = r.1;
      bits = r.0;
      long = l;
    }

pub well_read : (frame slot : ℕ) (s h : List ℕ) → (read_reported frame slot s h).fault ≡ 0
    → WellRead h (read_reported frame slot s h)
unfolding read_reported
well_read frame slot s h e =
    let y = sync_of (bits_of s) in
    let places = place_rules frame slot y in
    let g = answer_given (reported_fault frame slot s h) (header_of y (bits_of h)) e in
    let p = chain_split (sync_checks s h) (places ++ body_checks (bits_of h)) g.0 in
    let b = chain_split places (body_checks (bits_of h)) p.1 in
    subst (WellRead h) (sym g.1)
    (header_well y h (sync_holds s h p.0).length_h (body_holds (bits_of h) b.1))

-- ---- a continuation

block_given : (n : ℕ) (r : Continuation) → (block.answered n r).fault ≡ 0 → (n ≡ 0) × (block.answered n r ≡ r)
block_given zero r e = (refl, refl)
block_given (suc n) r e = absurd (omega arith)

pub record WellReadBlock (b : List ℕ) (x : Continuation) : Type 0 where
  pub sized : x.bits ≡ length (bits_of_message (block_message (bits_of b)))
  pub after : x.first ≡ 4
  pub room : x.first + x.bits ≤ 268
  pub bits : take x.bits (drop x.first (bits_of b)) ≡ bits_of_message (block_message (bits_of b))
  pub long : length b ≡ 34

-- what the rules of a continuation say of it
record BlockHolds (b : List ℕ) : Type 0 where
  length_b : length b ≡ 34
  there : is_there (block_message (bits_of b)) ≡ true

block_holds : (b : List ℕ) → first_of (continuation_checks b) ≡ 0 → BlockHolds b
block_holds b e =
    by_rules (continuation_checks b) e (λ long pad type room.
    record { length_b = eq_holds (length b) 34 0 long; there = holds (is_there (block_message (bits_of b))) 10 room })

pub well_read_block : (b : List ℕ) → (read_continuation b).fault ≡ 0 → WellReadBlock b (read_continuation b)
unfolding read_continuation
well_read_block b e =
    let g = block_given (first_of (continuation_checks b)) (continuation_of (bits_of b)) e in
    let k = block_holds b g.0 in
    let l = k.length_b in
    let n = length_bits_of b in
    let r =
    in_block (field 3 1 (bits_of b)) 4 268 (bits_of b) (omega (arith, field_lt 1 3 1 (bits_of b) (omega arith)))
    (omega arith) (omega arith) k.there in
    subst (WellReadBlock b) (sym g.1) (record { sized = refl; after = refl; room = r.1; bits = r.0; long = l })
