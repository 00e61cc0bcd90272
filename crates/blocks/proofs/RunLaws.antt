-- The laws of a run of elements: when the table has it. Assumes nothing.
use mathlib.Core.Path.{◌≡◌, refl, ap, ◌∙◌}
use mathlib.Core.Bool.{Bool, true, false}
use mathlib.Core.List.{List, [], ◌∷◌, ◌++◌}
use Prim.Native.Nat.{ℕ, zero, suc, ◌+◌, ◌-◌, ◌/◌, ◌^◌, ◌≤◌, ◌<◌}
use native.Mathlib.Nat.{zero-add, sub-zero, one-mul, div-lt_iff_lt-mul, div-eq_of_lt}
use native.Mathlib.Omega.{arith}
use lib.Dec.{eqb, ltb, leb}
use lib.Pow.{pow_pos}
use lib.ListN.{take, drop, replicate}
use lib.Seq.{drop-nil}
use borrow.Author.Tests.{lt-ltb, le-leb, lt-leb, ne_eqb, ltb-true}
use Rattle.bits.specs.Bits.{num, bit, bits_n, test_bit, bits_of, over, field}
use Rattle.bits.proofs.Numbers.{length_bits_n}
use Rattle.blocks.specs.Widths.{entry_of, added, width_of, run_holds, run_fits}
use Rattle.blocks.specs.declared.widths.Entry.{Entry}
use Rattle.blocks.proofs.WidthLaws.{width_listed}

-- ---- a number of w bits, by a shift

pub shifted_out : (e w : ℕ) → e / 2 ^ w ≡ 0 → e < 2 ^ w
shifted_out e w z = rw (one-mul (2 ^ w)) at ((div-lt_iff_lt-mul {x = e} {y = 1} (pow_pos w)).0 (omega arith))

pub not_shifted_out : (e w : ℕ) → (e / 2 ^ w ≡ 0 → ⊥) → ltb e (2 ^ w) ≡ false
not_shifted_out e w n = below_when (ltb e (2 ^ w)) refl
  where
    below_when : (t : Bool) → ltb e (2 ^ w) ≡ t → t ≡ false
    below_when true q = absurd (n (div-eq_of_lt (ltb-true e (2 ^ w) q)))
    below_when false q = refl

-- ---- a bit past the end reads as 0

drop_zeros : (p k : ℕ) → drop p (replicate k false) ≡ replicate (k - p) false
drop_zeros zero k = rw (sub-zero k) refl
drop_zeros (suc p) zero = let e : 0 - suc p ≡ 0 = omega arith in rw e refl
drop_zeros (suc p) (suc k) = let e : suc k - suc p ≡ k - p = omega arith in rw e (drop_zeros p k)

zero_bit : (k : ℕ) → num (take 1 (replicate k false)) ≡ 0
unfolding num bit
zero_bit zero = refl
zero_bit (suc k) = refl

field_pad : (p : ℕ) (l : List Bool) (k : ℕ) → field p 1 (l ++ replicate k false) ≡ field p 1 l
unfolding num bit
field_pad p [] k = rw (drop_zeros p k, zero_bit (k - p), drop-nil {A = Bool} p) refl
field_pad zero (x ∷ xs) k = refl
field_pad (suc p) (x ∷ xs) k = field_pad p xs k

width_pad : (e : Entry) (l : List Bool) (k : ℕ) → width_of e (l ++ replicate k false) ≡ width_of e l
unfolding width_of
width_pad e l k =
    let p₁ = field_pad e.first.place l k in
    let a = added (field e.first.place 1 l) e.first.adds in
    let p₂ = field_pad (a + e.second.place) l k in
    rw (p₁, p₂) refl

-- ---- the run of elements

-- eight zero bytes with the run written over their first bits
run_bits : (w e : ℕ) → over 0 (bits_n w e) (bits_of (replicate 8 0)) ≡ bits_n w e ++ replicate (64 - w) false
unfolding over bits_of bits_n test_bit
run_bits w e = ap (λ (x : List Bool). bits_n w e ++ x) (rw (length_bits_n w e, zero-add w) (drop_zeros w 64))

module _ (m w e : ℕ) {E : Entry} (p : E ≡ entry_of m) where
  pub run_unlisted : 254 < E.width → true ≡ run_fits m w e
  unfolding run_fits
  run_unlisted h = rw (lt-leb (entry_of m).width 254 (rw p at h)) refl

  module _ (l : E.width < 255) where
    few : (entry_of m).width ≤ 254
    few = let k = rw p at l in omega arith

    listed : leb (entry_of m).width 254 ≡ true
    listed = le-leb (entry_of m).width 254 few

    pub run_wide : 45 < w → false ≡ run_fits m w e
    unfolding run_fits
    run_wide h =
        let n = width_listed m (bits_n w e) few in
        rw (listed, ne_eqb (width_of (entry_of m) (bits_n w e)) w (omega arith)) (never (ltb e (2 ^ w)))
      where
        never : (t : Bool) → false ≡ run_holds true t false
        never true = refl
        never false = refl

    pub run_large : (e / 2 ^ w ≡ 0 → ⊥) → false ≡ run_fits m w e
    unfolding run_fits
    run_large h = rw (listed, not_shifted_out e w h) refl

    pub run_read : (r : ℕ) (run : List ℕ) → e / 2 ^ w ≡ 0 → bits_of run ≡ over 0 (bits_n w e) (bits_of (replicate 8 0))
        → r ≡ width_of (entry_of m) (bits_of run) → eqb r w ≡ run_fits m w e
    unfolding run_fits
    run_read r run z q s =
        rw (listed, lt-ltb e (2 ^ w) (shifted_out e w z))
        (ap (λ (x : ℕ). eqb x w)
        (s ∙ ap (width_of (entry_of m)) (q ∙ run_bits w e) ∙ width_pad (entry_of m) (bits_n w e) (64 - w)))

-- for `run_fits`
pub ruleset runs = (run_unlisted, run_wide, run_large, run_read, shifted_out)
