-- The laws of numbers and their bits. Assumes nothing.
use mathlib.Core.Path.{◌≡◌, refl, sym, ap, ap₂, ◌∙◌}
use mathlib.Core.Bool.{Bool, true, false}
use mathlib.Core.List.{List, [], ◌∷◌, ◌++◌}
use Prim.Native.Nat.{ℕ, zero, suc, ◌+◌, ◌-◌, ◌*◌, ◌/◌, ◌%◌, ◌^◌, ◌≤◌, ◌<◌}
use native.Mathlib.Nat.{suc-add, zero-add, add_assoc, mul_assoc, add-mul, pow-suc, mod-eq_of_lt, one-mul}
use native.Mathlib.Nat.{lt_of_lt_of_le, mul-add-div_right, mul-add-mod_self_right, mod-one, add_comm, mul_comm}
use native.Mathlib.Nat.{min-le_left, zero-div, zero-mul, mod-lt, mul-lt-mul_of_pos_right}
use native.Mathlib.Numerals.{one-add}
use native.Mathlib.Omega.{arith}
use lib.Dec.{eqb}
use borrow.Author.Tests.{eqb-true, eqb-false}
use lib.ListN.{length, take, drop, replicate, length-append, length-take, length-drop, take-append-drop}
use lib.Arith.{digits_lt, lt-one}
use lib.Bits.{bit_and, bit_or, and_mask, and_block, or_block, or_shifted, or_shifted_r, or_zero_r}
use lib.Seq.{take-take, take-nil, take-add, drop-drop}
use lib.Pow.{shl_exact, pow_pos, pow-add, pow_mono, split, high, low, mod-pow-add, shr-shr, shr_lt, ones_lt, high_ones}
use Rattle.bits.specs.Bits.{bit, test_bit, num, bits_n}

zero_mul_add : (m n : ℕ) → 0 * m + n ≡ n
zero_mul_add m n = omega arith

pub length_bits_n : (w v : ℕ) → length (bits_n w v) ≡ w
unfolding bits_n
length_bits_n zero v = refl
length_bits_n (suc w) v = ap suc (length_bits_n w v)

bit_odd_when : (b : Bool) (n : ℕ) → n < 2 → eqb n 1 ≡ b → bit b ≡ n
unfolding bit
bit_odd_when true n h e = sym (eqb-true n 1 e)
bit_odd_when false n h e = let z : n ≡ 1 → ⊥ = eqb-false n 1 e in omega arith

pub bit_test_bit : (v k : ℕ) → bit (test_bit v k) ≡ v / 2 ^ k % 2
unfolding test_bit
bit_test_bit v k = bit_odd_when (test_bit v k) (v / 2 ^ k % 2) (omega arith) refl

pub num_bits_n_mod : (w v : ℕ) → num (bits_n w v) ≡ v % 2 ^ w
unfolding num bits_n
num_bits_n_mod zero v = sym (mod-one v)
num_bits_n_mod (suc w) v =
    rw (bit_test_bit v w, length_bits_n w v, num_bits_n_mod w v, ← one-add w, mod-pow-add v 1 w) refl

pub num_bits_n : (w v : ℕ) → v < 2 ^ w → num (bits_n w v) ≡ v
num_bits_n w v h = num_bits_n_mod w v ∙ mod-eq_of_lt h

bit_lt : (b : Bool) → bit b < 2
unfolding bit
bit_lt true = omega arith
bit_lt false = omega arith

pub num_lt : (b : List Bool) → num b < 2 ^ length b
unfolding num
num_lt [] = omega arith
num_lt (b ∷ bs) = rw (pow-suc 2 (length bs), mul_comm (2 ^ length bs) 2) (digits_lt (bit_lt b) (num_lt bs))

pub num_append : (a b : List Bool) → num (a ++ b) ≡ num a * 2 ^ length b + num b
unfolding num
num_append [] b = sym (zero_mul_add (2 ^ length b) (num b))
num_append (x ∷ xs) b =
    rw (
      num_append xs b,
      length-append xs b,
      pow-add 2 (length xs) (length b),
      add-mul (bit x * 2 ^ length xs) (num xs) (2 ^ length b),
      mul_assoc (bit x) (2 ^ length xs) (2 ^ length b),
      add_assoc (bit x * (2 ^ length xs * 2 ^ length b)) (num xs * 2 ^ length b) (num b),
    ) refl

-- the high j bits of j + k, and the low k
pub bits_n_add : (j k v : ℕ) → bits_n (j + k) v ≡ bits_n j (v / 2 ^ k) ++ bits_n k v
unfolding bits_n test_bit
bits_n_add zero k v = rw (zero-add k) refl
bits_n_add (suc j) k v = rw (suc-add j k, bits_n_add j k v, shr-shr v k j, add_comm k j) refl

-- what stands above the w low bits does not count
pub bits_n_high : (w h l : ℕ) → bits_n w (h * 2 ^ w + l) ≡ bits_n w l
unfolding bits_n test_bit
bits_n_high zero h l = refl
bits_n_high (suc w) h l =
    rw (
      pow-suc 2 w,
      mul_comm (2 ^ w) 2,
      ← mul_assoc h 2 (2 ^ w),
      bits_n_high w (h * 2) l,
      mul-add-div_right (pow_pos w) (h * 2) l,
      mul-add-mod_self_right h 2 (l / 2 ^ w),
    ) refl

pub bits_n_mod : (w v : ℕ) → bits_n w (v % 2 ^ w) ≡ bits_n w v
bits_n_mod w v = sym (bits_n_high w (v / 2 ^ w) (v % 2 ^ w)) ∙ ap (bits_n w) (split v w)

bit_back : (b : Bool) → eqb (bit b % 2) 1 ≡ b
unfolding bit
bit_back true = refl
bit_back false = refl

pub bits_n_num : (b : List Bool) → bits_n (length b) (num b) ≡ b
unfolding bits_n num test_bit
bits_n_num [] = refl
bits_n_num (b ∷ bs) =
    rw (high (bit b) (length bs) (num_lt bs), bit_back b, bits_n_high (length bs) (bit b) (num bs), bits_n_num bs) refl

-- a bit string is its length and its number
pub num_inj : (a b : List Bool) → length a ≡ length b → num a ≡ num b → a ≡ b
num_inj a b l n = sym (bits_n_num a) ∙ ap₂ bits_n l n ∙ bits_n_num b

pub bits_n_is : (w v : ℕ) (b : List Bool) → length b ≡ w → num b ≡ v → bits_n w v ≡ b
bits_n_is w v b l n = ap₂ bits_n (sym l) (sym n) ∙ bits_n_num b

-- ---- parts of a string

pub take_of_drop : {A : Type 0} (w a t : ℕ) (l : List A) → a + w ≤ t → take w (drop a (take t l)) ≡ take w (drop a l)
take_of_drop w zero t l h = take-take w t l (omega arith)
take_of_drop w (suc a) zero l h = absurd (omega arith)
take_of_drop w (suc a) (suc t) [] h = refl
take_of_drop w (suc a) (suc t) (x ∷ xs) h = take_of_drop w a t xs (omega arith)

pub drop_of_take : {A : Type 0} (k w : ℕ) (l : List A) → drop k (take (k + w) l) ≡ take w (drop k l)
drop_of_take zero w l = rw (zero-add w) refl
drop_of_take {A = A} (suc k) w [] = rw (suc-add k w, take-nil {A = A} w) refl
drop_of_take (suc k) w (x ∷ xs) = rw (suc-add k w) (drop_of_take k w xs)

-- the first k of k + r bits count above 2 ^ r, and the others below
module _ (m : List Bool) (k r : ℕ) (e : k + r ≡ length m) where
  length_low : length (drop k m) ≡ r
  length_low = rw (length-drop k m) (omega arith)

  low_lt : num (drop k m) < 2 ^ r
  low_lt = rw length_low at (num_lt (drop k m))

  pub num_cut : num m ≡ num (take k m) * 2 ^ r + num (drop k m)
  num_cut = ap num (sym (take-append-drop k m)) ∙ rw (num_append (take k m) (drop k m), length_low) refl

  pub num_shr : num m / 2 ^ r ≡ num (take k m)
  num_shr = rw num_cut (high (num (take k m)) r low_lt)

  pub num_low : num m % 2 ^ r ≡ num (drop k m)
  num_low = rw num_cut (low (num (take k m)) r low_lt)

-- the number of the w bits after k, of which r follow
pub num_field : (m : List Bool) (k w r : ℕ) → k + w + r ≡ length m → num m / 2 ^ r % 2 ^ w ≡ num (take w (drop k m))
num_field m k w r e =
    rw (
      num_shr m (k + w) r e,
      num_low (take (k + w) m) k w (rw (length-take (k + w) m) (omega arith)),
      drop_of_take k w m,
    ) refl

-- what stands in w bits is below 2 ^ w
pub num_take_lt : (w : ℕ) (l : List Bool) → num (take w l) < 2 ^ w
num_take_lt w l = lt_of_lt_of_le (num_lt (take w l)) (pow_mono (rw (length-take w l) (min-le_left w (length l))))

-- a number of w bits is one of k bits
pub fits_in : (k : ℕ) {w v : ℕ} → v < 2 ^ w → w ≤ k → v < 2 ^ k
fits_in k h l = lt_of_lt_of_le h (pow_mono {j = k} l)

pub bits_n_zero : (w : ℕ) → bits_n w 0 ≡ replicate w false
unfolding bits_n test_bit
bits_n_zero zero = refl
bits_n_zero (suc w) = rw (zero-div (2 ^ w), bits_n_zero w) refl

-- `(1 << w) - 1`, at 64 bits
pub ones_of : (w : ℕ) → w < 64 → 1 * 2 ^ w % 2 ^ 64 ≡ 2 ^ w
ones_of w h = shl_exact 1 w 64 (omega arith) (omega arith) ∙ one-mul (2 ^ w)

-- the bits from `at` on, in two parts
pub num_parts : (b : List Bool) (at j k : ℕ) → at + (j + k) ≤ length b
    → num (take (j + k) (drop at b)) ≡ num (take j (drop at b)) * 2 ^ k + num (take k (drop (at + j) b))
num_parts b at j k h =
    let l : length (take k (drop (at + j) b)) ≡ k =
    rw (length-take k (drop (at + j) b), length-drop (at + j) b) (omega arith) in
    rw (take-add j k (drop at b), drop-drop j at b, num_append (take j (drop at b)) (take k (drop (at + j) b)), l) refl

-- a field, from the k bits at its end and those before them
pub few_code : (b : List Bool) (at w k hi lo : ℕ) → k ≤ w → w ≤ 56 → at + w ≤ length b
    → hi ≡ num (take (w - k) (drop at b))
    → lo ≡ num (take k (drop (at + (w - k)) b)) → bit_or (hi * 2 ^ k % 2 ^ 64) lo ≡ num (take w (drop at b))
few_code b at w k hi lo h n l eh el =
    let e : w ≡ w - k + k = omega arith in
    let small : hi < 2 ^ (w - k) = rw eh (num_take_lt (w - k) (drop at b)) in
    let low : lo < 2 ^ k = rw el (num_take_lt k (drop (at + (w - k)) b)) in
    rw (shl_exact {a = hi} (w - k) k 64 small (omega arith), or_shifted hi k lo low, eh, el)
    (sym (ap (λ (x : ℕ). num (take x (drop at b))) e ∙ num_parts b at (w - k) k (omega arith)))

-- ---- the w bits of x that a bits follow: what the code makes of them, and of x with v for them

-- `a & 63`
low_six : (a : ℕ) → a < 64 → bit_and a 63 ≡ a
low_six a h = and_mask a 6 ∙ mod-eq_of_lt h

shr_six : (x a w : ℕ) → a + w ≤ 64 → x / 2 ^ bit_and a 63 % 2 ^ w ≡ x / 2 ^ a % 2 ^ w
shr_six x a zero h = mod-one _ ∙ sym (mod-one _)
shr_six x a (suc w) h = rw (low_six a (omega arith)) refl

shl_six : (v a w : ℕ) → v < 2 ^ w → a + w ≤ 64 → v * 2 ^ bit_and a 63 % 2 ^ 64 ≡ v * 2 ^ a
shl_six v a zero h l = rw (lt-one h, zero-mul (2 ^ bit_and a 63), zero-mul (2 ^ a)) refl
shl_six v a (suc w) h l = rw (low_six a (omega arith)) (shl_exact (suc w) a 64 h (omega arith))

pub cut_code : (x a w : ℕ) → a + w ≤ 64 → bit_and (x / 2 ^ bit_and a 63) (2 ^ w - 1) ≡ x / 2 ^ a % 2 ^ w
cut_code x a w h = rw (and_mask (x / 2 ^ bit_and a 63) w) (shr_six x a w h)

module _ (x a w v : ℕ) (h : a + w ≤ 64) (hv : v < 2 ^ w) (hx : x < 2 ^ 64) where
  -- the bits above, and how many there are
  abbrev t : ℕ
  t = 64 - (w + a)

  abbrev above : ℕ
  above = x / 2 ^ (w + a)

  width : t + (w + a) ≡ 64
  width = omega arith

  above_lt : above < 2 ^ t
  above_lt = shr_lt t (w + a) (rw width hx)

  after_le : 2 ^ a ≤ 2 ^ (w + a)
  after_le = pow_mono {j = w + a} (omega arith)

  after_lt : x % 2 ^ a < 2 ^ a
  after_lt = mod-lt x (pow_pos a)

  -- the mask of what stays: the bits above, and the a bits that follow
  stays : 2 ^ 64 - 1 - (2 ^ w - 1) * 2 ^ bit_and a 63 % 2 ^ 64 ≡ (2 ^ t - 1) * 2 ^ (w + a) + (2 ^ a - 1)
  stays =
      let q : 2 ^ (t + (w + a)) ≡ 2 ^ 64 = ap (λ (k : ℕ). 2 ^ k) width in
      let p : 2 ^ (w + a) ≤ 2 ^ 64 = pow_mono {j = 64} (omega arith) in
      rw (shl_six (2 ^ w - 1) a w (ones_lt w) h, ← high_ones w a, ← high_ones t (w + a), q)
      (omega (arith, pow_pos a, after_le))

  kept : bit_and x ((2 ^ t - 1) * 2 ^ (w + a) + (2 ^ a - 1)) ≡ above * 2 ^ (w + a) + x % 2 ^ a
  kept =
      ap (λ (y : ℕ). bit_and y ((2 ^ t - 1) * 2 ^ (w + a) + (2 ^ a - 1))) (sym (split x (w + a)))
      ∙ and_block (w + a) above (2 ^ t - 1) (x % 2 ^ (w + a)) (2 ^ a - 1) (mod-lt x (pow_pos (w + a)))
      (lt_of_lt_of_le (ones_lt a) after_le)
      ∙ ap₂ (λ (y z : ℕ). y * 2 ^ (w + a) + z) (and_mask above t ∙ mod-eq_of_lt above_lt)
      (and_mask (x % 2 ^ (w + a)) a ∙ rw (mod-pow-add x w a) (low (x / 2 ^ a % 2 ^ w) a after_lt))

  -- v goes where nothing stays
  placed : bit_or (above * 2 ^ (w + a) + x % 2 ^ a) (v * 2 ^ a) ≡ above * 2 ^ (w + a) + (v * 2 ^ a + x % 2 ^ a)
  placed =
      let z : v * 2 ^ a ≡ 0 * 2 ^ (w + a) + v * 2 ^ a = sym (zero_mul_add (2 ^ (w + a)) (v * 2 ^ a)) in
      let s : v * 2 ^ a < 2 ^ (w + a) = rw (pow-add 2 w a) (mul-lt-mul_of_pos_right hv (pow_pos a)) in
      ap (bit_or (above * 2 ^ (w + a) + x % 2 ^ a)) z
      ∙ or_block (w + a) above 0 (x % 2 ^ a) (v * 2 ^ a) (lt_of_lt_of_le after_lt after_le) s
      ∙ ap₂ (λ (y z : ℕ). y * 2 ^ (w + a) + z) (or_zero_r above) (or_shifted_r v a (x % 2 ^ a) after_lt)

  pub paste_code : bit_or (bit_and x (2 ^ 64 - 1 - (2 ^ w - 1) * 2 ^ bit_and a 63 % 2 ^ 64))
      (v * 2 ^ bit_and a 63 % 2 ^ 64)
      ≡ above * 2 ^ (w + a) + (v * 2 ^ a + x % 2 ^ a)
  paste_code = rw (stays, kept, shl_six v a w hv h) placed
