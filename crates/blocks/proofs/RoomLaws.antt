-- The laws of the DM-SDU's room. Assumes nothing.
use mathlib.Core.Path.{◌≡◌, refl, sym, ap}
use mathlib.Core.Bool.{Bool, true, false, cond}
use mathlib.Core.List.{List, [], ◌∷◌}
use mathlib.Core.Option.{Option, none, some}
use Prim.Native.Nat.{ℕ, ◌+◌, ◌≤◌, ◌<◌}
use native.Mathlib.Omega.{arith}
use lib.ListN.{length}
use lib.Seq.{slice, length-slice}
use lib.Dec.{eqb, ltb}
use borrow.Author.Tests.{lt-ltb, le-ltb, ltb-true, ltb-false, eqb-true, eqb-false}
use Rattle.bits.specs.Fill.{found_at, fill_bits, filled, strip}
use Rattle.bits.proofs.Filling.{strip_filled, filled_none, strip_is, strip_lt}
use Rattle.std.specs.Prelude.{Result, IfOk}
use Rattle.std.specs.Option.{ok_or}
use Rattle.blocks.specs.declared.fault.Fault.{Fault}
use Rattle.blocks.specs.declared.fault.Fault.TheVariants.{Fill}
use Rattle.blocks.specs.Faults.{refusal, unless, first_of}
use Rattle.blocks.specs.Sdu.{unfilled, sdu_of, fill_told, is_there, bits_of_message}

-- where fill is told of, the place that is found is the end of the message, and none is its fault
pub found_end : (from : ℕ) (o : Option (List Bool)) {r : Result ℕ Fault} → r ≡ ok_or (found_at from o) Fill
    → (refusal r ≡ first_of (unless (is_there o) 11 ∷ [])) × IfOk r (λ n. n ≡ from + length (bits_of_message o))
unfolding found_at
found_end from none e = rw e (refl, tt)
found_end from (some m) e = rw e (refl, refl)

-- ---- fill, added and deleted

told_when : (t : Bool) (room : ℕ) (m : List Bool) → ltb (length m) room ≡ t → length m ≤ room
    → unfilled (eqb (cond t 1 0) 1) (filled room m) ≡ some m
unfolding filled fill_bits
told_when true room m e h = strip_filled room m (ltb-true (length m) room e)
told_when false room m e h =
    let l : room ≡ length m = let k = ltb-false (length m) room e in omega arith in
    ap some (rw l (filled_none m))

-- deleting the fill that was added gives the message back, with or without fill
pub sdu_filled : (room : ℕ) (m : List Bool) → length m ≤ room → sdu_of (fill_told room m) (filled room m) ≡ some m
sdu_filled room m h = told_when (ltb (length m) room) room m refl h

-- ---- fill, deleted and added again

stripped_when : (o : Option (List Bool)) (room : List Bool) → strip room ≡ o → is_there o ≡ true
    → (room ≡ filled (length room) (bits_of_message o)) × (length (bits_of_message o) < length room)
stripped_when none room s e = let z : ◌≡◌ {A = ℕ} 0 1 = cc in absurd (omega arith)
stripped_when (some m) room s e = (strip_is room m s, strip_lt room m s)

-- a room that reads well is its message, filled, and its indication is the one that filling gives
refill_when : (t : Bool) (fill : ℕ) (room : List Bool) → eqb fill 1 ≡ t → fill ≤ 1 → is_there (unfilled t room) ≡ true
    → (room ≡ filled (length room) (bits_of_message (unfilled t room)))
    × (fill_told (length room) (bits_of_message (unfilled t room)) ≡ fill)
    × (length (bits_of_message (unfilled t room)) ≤ length room)
refill_when true fill room e h i =
    let s = stripped_when (strip room) room refl i in
    let f = eqb-true fill 1 e in
    let l = s.1 in
    (s.0, rw (lt-ltb (length (bits_of_message (strip room))) (length room) s.1) (sym f), omega arith)
refill_when false fill room e h i =
    let f = eqb-false fill 1 e in
    let z : fill ≡ 0 = omega arith in
    (sym (filled_none room), rw (le-ltb (length room) (length room) (omega arith)) (sym z), omega arith)

pub refill : (fill : ℕ) (room : List Bool) → fill ≤ 1 → is_there (sdu_of fill room) ≡ true
    → (room ≡ filled (length room) (bits_of_message (sdu_of fill room)))
    × (fill_told (length room) (bits_of_message (sdu_of fill room)) ≡ fill)
    × (length (bits_of_message (sdu_of fill room)) ≤ length room)
refill fill room h i = refill_when (eqb fill 1) fill room refl h i

-- ---- a room in its block

-- the DM-SDU's first bit and its room make the bits up to the room's end, 124 in SCH/H
pub room_length : (first end : ℕ) (b : List Bool) → first ≤ end → end ≤ length b
    → first + length (slice first end b) ≡ end
room_length first end b h l = rw (length-slice first end b l) (omega arith)
