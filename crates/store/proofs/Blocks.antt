-- The laws of blocks as two numbers: two compared, and one with two bits cleared. Assumes nothing.
use mathlib.Core.Path.{◌≡◌, refl, sym, ap, ap₂, ◌∙◌}
use mathlib.Core.Bool.{Bool, true, false, ◌&&◌}
use mathlib.Core.List.{List, [], ◌∷◌, ◌++◌}
use Prim.Native.Nat.{ℕ, ◌+◌, ◌-◌, ◌*◌, ◌%◌, ◌^◌, ◌≤◌, ◌<◌}
use native.Mathlib.Omega.{arith}
use borrow.Author.Tests.{eqb-true, eq-eqb}
use lib.Dec.{eqb}
use lib.ListN.{length, take, drop, length-take, length-drop, take-append-drop}
use lib.Seq.{take_all, take-take, drop-drop, length-take-le}
use lib.Bits.{bit_or, or_shifted}
use lib.Pow.{shl_exact}
use Rattle.bits.specs.Bits.{bit, num, bits_of, over, field}
use Rattle.bits.proofs.Numbers.{num_append, num_cut, drop_of_take, bits_n_num, bits_n_is}
use Rattle.bits.proofs.Bytes.{length_bits_of}
use Rattle.bits.proofs.Over.{over_drop, length_over}
use Rattle.store.specs.Store.{halves, without, same_raw}
use Rattle.store.specs.declared.Raw.{Raw}
use Rattle.store.proofs.Messages.{take_over}

-- ---- two blocks compared

both : (p q : Bool) → p && q ≡ true → (p ≡ true) × (q ≡ true)
both true q e = (refl, e)
both false q e = let z : ◌≡◌ {A = ℕ} 0 1 = cc in absurd (omega arith)

-- the same are equal
pub same_is : (a b : Raw) → same_raw a b ≡ true → a ≡ b
same_is a b e =
    let t = both (eqb a.high b.high) (eqb a.low b.low) e in
    let h = eqb-true a.high b.high t.0 in
    let l = eqb-true a.low b.low t.1 in
    λ i. record { high = h i; low = l i }

-- and the other way round
pub is_same : (a b : Raw) → a ≡ b → same_raw a b ≡ true
is_same a b e = ap₂ ◌&&◌ (eq-eqb a.high b.high (λ i. (e i).high)) (eq-eqb a.low b.low (λ i. (e i).low))

-- ---- two numbers lose nothing

num_same : (a b : List Bool) → length a ≡ length b → num a ≡ num b → a ≡ b
num_same a b l e = sym (bits_n_num a) ∙ bits_n_is (length a) (num a) b (sym l) (sym e)

pub halves_same : (a b : List Bool) → length a ≡ length b → halves a ≡ halves b → a ≡ b
halves_same a b l e =
    let first =
    num_same (take 64 a) (take 64 b) (length-take 64 a ∙ rw l refl ∙ sym (length-take 64 b)) (λ i. (e i).high) in
    let second =
    num_same (drop 64 a) (drop 64 b) (length-drop 64 a ∙ rw l refl ∙ sym (length-drop 64 b)) (λ i. (e i).low) in
    sym (take-append-drop 64 a) ∙ ap₂ ◌++◌ first second ∙ take-append-drop 64 b

-- two blocks that are the same but for two bits have the same numbers, and no others have
pub without_same : (at : ℕ) (h k : List ℕ) → length h ≡ length k → at + 2 ≤ 8 * length h → without at h ≡ without at k
    → over at (false ∷ false ∷ []) (bits_of h) ≡ over at (false ∷ false ∷ []) (bits_of k)
without_same at h k l w e =
    let two : List Bool = false ∷ false ∷ [] in
    let n : length (bits_of h) ≡ length (bits_of k) = omega (arith, length_bits_of h, length_bits_of k) in
    halves_same (over at two (bits_of h)) (over at two (bits_of k))
    (length_over at two (bits_of h) (omega (arith, length_bits_of h)) ∙ n
    ∙ sym (length_over at two (bits_of k) (omega (arith, length_bits_of k))))
    e

-- ---- a block with two bits cleared

-- what the code makes of two fields side by side
pub side_by_side : (j k x y : ℕ) → x < 2 ^ j → y < 2 ^ k → j + k ≤ 64 → bit_or (x * 2 ^ k % 2 ^ 64) y ≡ x * 2 ^ k + y
side_by_side j k x y hx hy h = rw (shl_exact j k 64 hx h, or_shifted x k y hy) refl

-- two zeros before a string count nothing
zeros_first : (b : List Bool) → num (false ∷ false ∷ b) ≡ num b
unfolding num bit
zeros_first b = omega arith

module _ (at : ℕ) (b : List Bool) (l : length b ≡ 128) (h : at ≤ 62) where
  abbrev two : List Bool
  two = false ∷ false ∷ []

  -- the first half: what stands before the two bits, and what stands after them
  pub first_half : num (take 64 (over at two b)) ≡ field 0 at b * 2 ^ (64 - at) + field (at + 2) (62 - at) b
  unfolding over
  first_half =
      let f = take 64 b in
      let y = drop (at + 2) f in
      let ly : length (false ∷ false ∷ y) ≡ 64 - at =
      omega (arith, length-drop (at + 2) f, length-take-le 64 b (omega arith)) in
      let s : 64 ≡ (at + 2) + (62 - at) = omega arith in
      let ey : y ≡ take (62 - at) (drop (at + 2) b) =
      ap (λ (n : ℕ). drop (at + 2) (take n b)) s ∙ drop_of_take (at + 2) (62 - at) b in
      ap num (take_over 64 at two b (omega arith) (omega arith))
      ∙ num_append (take at f) (false ∷ false ∷ y)
      ∙ rw (take-take at 64 b (omega arith), ly, zeros_first y, ey) refl

  -- the second half, as two fields
  pub second_half : num (drop 64 (over at two b)) ≡ field 64 32 b * 2 ^ 32 + field 96 32 b
  second_half =
      let d = drop 64 b in
      let ld : length d ≡ 64 = omega (arith, length-drop 64 b) in
      ap num (over_drop 64 at two b (omega arith) (omega arith))
      ∙ num_cut d 32 32 (sym ld)
      ∙ rw (drop-drop 32 64 b, take_all 32 (drop 96 b) (omega (arith, length-drop 96 b))) refl
