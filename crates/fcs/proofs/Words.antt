-- The numbers of strings that were mixed, complemented or shifted. Assumes nothing.
use mathlib.Core.Path.{◌≡◌, refl, sym, ap, ◌∙◌}
use mathlib.Core.Bool.{Bool, true, false, xor, not}
use mathlib.Core.List.{List, [], ◌∷◌, ◌++◌, map}
use Prim.Native.Nat.{ℕ, zero, suc, ◌+◌, ◌-◌, ◌*◌, ◌%◌, ◌^◌, ◌≤◌, ◌<◌}
use native.Mathlib.Nat.{pow-suc, add-mul, mul_assoc}
use native.Mathlib.Omega.{arith}
use lib.ListN.{length, take, drop, length-drop, length-map, length-replicate}
use lib.Bits.{bit_xor, xor_block}
use lib.Pow.{low, pow-add, shl_lt}
use Rattle.bits.specs.Bits.{bit, num}
use Rattle.bits.proofs.Numbers.{num_lt, num_append, num_cut}
use Rattle.fcs.specs.Polynomials.{zeros, mixed}
use Rattle.fcs.proofs.Polynomials.{length_mixed}

bit_xor_lem : (x y : Bool) → bit (xor x y) ≡ bit_xor (bit x) (bit y)
unfolding bit xor
bit_xor_lem true true = refl
bit_xor_lem true false = refl
bit_xor_lem false true = refl
bit_xor_lem false false = refl

-- the exclusive or of two strings of one length is that of their numbers
pub num_mixed : (a b : List Bool) → length a ≡ length b → num (mixed a b) ≡ bit_xor (num a) (num b)
unfolding num mixed
num_mixed [] [] e = refl
num_mixed [] (y ∷ b) e = absurd (omega arith)
num_mixed (x ∷ a) [] e = absurd (omega arith)
num_mixed (x ∷ a) (y ∷ b) e =
    let l : length a ≡ length b = omega arith in
    let m : length (mixed a b) ≡ length b = length_mixed a b (omega arith) ∙ l in
    let small : num a < 2 ^ length b = rw (← l) (num_lt a) in
    rw (m, l, num_mixed a b l, bit_xor_lem x y)
    (sym (xor_block (length b) (bit x) (bit y) (num a) (num b) small (num_lt b)))

pub num_zeros : (n : ℕ) → num (zeros n) ≡ 0
unfolding num bit
num_zeros zero = refl
num_zeros (suc n) = omega (arith, num_zeros n)

-- 0s after a string shift its number
pub num_shifted : (a : List Bool) (n : ℕ) → num (a ++ zeros n) ≡ num a * 2 ^ n
num_shifted a n = num_append a (zeros n) ∙ rw (num_zeros n, length-replicate n false) (omega arith)

-- all bits complemented
pub num_not : (a : List Bool) → num (map not a) ≡ 2 ^ length a - 1 - num a
unfolding num bit
num_not [] = refl
num_not (true ∷ a) = rw (length-map a not, num_not a) (omega (arith, pow-suc 2 (length a), num_lt a))
num_not (false ∷ a) = rw (length-map a not, num_not a) (omega (arith, pow-suc 2 (length a), num_lt a))

-- k places to the left, in w places
pub num_kept : (c : List Bool) (k w : ℕ) → length c ≡ w → k ≤ w → num c * 2 ^ k % 2 ^ w ≡ num (drop k c ++ zeros k)
num_kept c k w e h =
    let a = num (take k c) in
    let d = num (drop k c) in
    let j = w - k in
    let parts : w ≡ j + k = omega arith in
    let l : length (drop k c) ≡ j = length-drop k c ∙ omega arith in
    let p : 2 ^ w ≡ 2 ^ j * 2 ^ k = ap (λ (n : ℕ). 2 ^ n) parts ∙ pow-add 2 j k in
    let small : d * 2 ^ k < 2 ^ w = rw parts (shl_lt j k (rw l at (num_lt (drop k c)))) in
    let shifted : num c * 2 ^ k ≡ a * 2 ^ w + d * 2 ^ k =
    rw (num_cut c k j (omega arith), add-mul (a * 2 ^ j) d (2 ^ k), mul_assoc a (2 ^ j) (2 ^ k), p) refl in
    rw (shifted, num_shifted (drop k c) k) (low a w small)
