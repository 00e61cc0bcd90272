-- The table of the code has remainders: by a test that is computed. Assumes nothing.
use mathlib.Core.Path.{◌≡◌, ap, ◌∙◌}
use mathlib.Core.Bool.{Bool, true, xor, ◌&&◌}
use mathlib.Core.List.{List, [], ◌∷◌}
use Prim.Native.Nat.{ℕ, zero, suc, ◌+◌, ◌<◌}
use native.Mathlib.Nat.{zero-add}
use native.Mathlib.Omega.{arith}
use lib.Dec.{T, eqb, eqb→eq}
use lib.ListN.{length, get_or}
use Rattle.bits.specs.Bits.{bit, num, bits_n, test_bit}
use Rattle.bits.proofs.Tests.{both}
use Rattle.fcs.specs.Polynomials.{mixed, times, lead, step, remainder}
use Rattle.fcs.specs.Annex.{generator, remainder_of}

-- the table is right, from the entry of i on
abbrev right : ℕ → List ℕ → Bool
right i [] = true
right i (x ∷ xs) = eqb x (num (remainder_of (bits_n 4 i))) && right (suc i) xs

entry : (i : ℕ) (xs : List ℕ) → T (right i xs) → (j : ℕ) → j < length xs
    → get_or xs j 0 ≡ num (remainder_of (bits_n 4 (i + j)))
entry i [] t j h = absurd (omega arith)
entry i (x ∷ xs) t zero h =
    let e : i ≡ i + 0 = omega arith in
    let v = num (remainder_of (bits_n 4 i)) in
    eqb→eq x v (both (eqb x v) (right (suc i) xs) t).0 ∙ ap (λ (k : ℕ). num (remainder_of (bits_n 4 k))) e
entry i (x ∷ xs) t (suc j) h =
    let e : suc i + j ≡ i + suc j = omega arith in
    let v = num (remainder_of (bits_n 4 i)) in
    entry (suc i) xs (both (eqb x v) (right (suc i) xs) t).1 j (omega arith)
    ∙ ap (λ (k : ℕ). num (remainder_of (bits_n 4 k))) e

abbrev pub fours : List ℕ
fours =
    0x00000000 ∷ 0x04c11db7 ∷ 0x09823b6e ∷ 0x0d4326d9 ∷ 0x130476dc ∷ 0x17c56b6b ∷ 0x1a864db2 ∷ 0x1e475005 ∷
    0x2608edb8 ∷ 0x22c9f00f ∷ 0x2f8ad6d6 ∷ 0x2b4bcb61 ∷ 0x350c9b64 ∷ 0x31cd86d3 ∷ 0x3c8ea00a ∷ 0x384fbdbd ∷ []

fours_right : T (right 0 fours)
unfolding num bit bits_n test_bit xor mixed times lead step remainder generator remainder_of
fours_right = tt

pub four_rule : (i : ℕ) → i < 16 → get_or fours i 0 ≡ num (remainder_of (bits_n 4 i))
four_rule i h = entry 0 fours fours_right i h ∙ ap (λ (k : ℕ). num (remainder_of (bits_n 4 k))) (zero-add i)
