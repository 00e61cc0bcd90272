-- The register as a number: what the code makes of it. Assumes nothing.
use mathlib.Core.Path.{◌≡◌, refl, sym, ap, ap₂, ◌∙◌}
use mathlib.Core.Bool.{Bool}
use mathlib.Core.List.{List, ◌++◌}
use Prim.Native.Nat.{ℕ, zero, suc, ◌+◌, ◌-◌, ◌*◌, ◌/◌, ◌%◌, ◌^◌, ◌≤◌, ◌<◌}
use native.Mathlib.Nat.{pow-suc, zero-div, zero-add, lt_of_lt_of_le}
use native.Mathlib.Numerals.{one-add}
use native.Mathlib.Omega.{arith}
use lib.ListN.{length, take, drop, get_or, length-take, length-drop}
use lib.Seq.{take-add, take-append-le, drop-cons}
use lib.Bits.{bit_xor}
use lib.Arith.{lt-one}
use lib.Pow.{pow_pos, pow_mono, ones_lt, shr-shr, shr_le, shr_lt, shl_exact}
use Rattle.bits.specs.Bits.{bit, num, bits_n, bits_of}
use Rattle.bits.proofs.Numbers.{length_bits_n, num_bits_n, num_shr, bits_n_is, bits_n_add, bits_n_zero, fits_in}
use Rattle.bits.proofs.Bytes.{length_bits_of, bits_of_drop}
use Rattle.fcs.specs.Polynomials.{zeros, mixed}
use Rattle.fcs.specs.Annex.{started, remainder_of, fcs_of}
use Rattle.fcs.specs.Register.{ones, fed, turns, Fours}
use Rattle.fcs.proofs.Polynomials.{length_mixed}
use Rattle.fcs.proofs.Words.{num_zeros, num_shifted, num_kept, num_mixed, num_not}
use Rattle.fcs.proofs.Annex.{length_remainder_of}
use Rattle.fcs.proofs.Register.{length_zeros_after, length_turns, turns_add, length_fed, remainder_after}
use Rattle.fcs.proofs.Register.{fed_append, fed_turns, turns_parts, length_ones, fed_frame}

-- ---- turns

pub turns_code : (k v : ℕ) → v < 2 ^ 32 → k ≤ 32
    → num (turns k (bits_n 32 v)) ≡ bit_xor (num (remainder_of (bits_n k (v / 2 ^ (32 - k))))) (v * 2 ^ k % 2 ^ 32)
turns_code k v small h =
    let c = bits_n 32 v in
    let i = v / 2 ^ (32 - k) in
    let e : length c ≡ 32 = length_bits_n 32 v in
    let n : num c ≡ v = num_bits_n 32 v small in
    let l : length (drop k c ++ zeros k) ≡ 32 = length_zeros_after (drop k c) k ∙ omega (arith, length-drop k c) in
    let first : num (take k c) ≡ i =
    sym (num_shr c k (32 - k) (omega arith)) ∙ ap (λ (x : ℕ). x / 2 ^ (32 - k)) n in
    let out : take k c ≡ bits_n k i = sym (bits_n_is k i (take k c) (length-take k c ∙ omega arith) first) in
    ap num (turns_parts k c e h)
    ∙ num_mixed (remainder_of (take k c)) (drop k c ++ zeros k) (length_remainder_of (take k c) ∙ sym l)
    ∙ ap₂ bit_xor
    (ap (λ (x : List Bool). num (remainder_of x)) out)
    (sym (num_kept c k 32 e h) ∙ ap (λ (x : ℕ). x * 2 ^ k % 2 ^ 32) n)

-- the table serves for fewer than four bits too
few_rule : (table : List ℕ) (k i : ℕ) → Fours table → k ≤ 4 → i < 2 ^ k
    → get_or table i 0 ≡ num (remainder_of (bits_n k i))
few_rule table k i f h small =
    let j = 4 - k in
    let e : 4 ≡ j + k = omega arith in
    let z : i / 2 ^ k ≡ 0 = lt-one (shr_lt 0 k (rw (zero-add k) small)) in
    let high : bits_n j (i / 2 ^ k) ≡ zeros j = ap (bits_n j) z ∙ bits_n_zero j in
    let b : bits_n 4 i ≡ zeros j ++ bits_n k i =
    ap (λ (w : ℕ). bits_n w i) e ∙ bits_n_add j k i ∙ ap (λ (x : List Bool). x ++ bits_n k i) high in
    f.entry i (fits_in 4 small h) ∙ ap num (ap remainder_of b ∙ remainder_after j (bits_n k i))

-- the k bits that go out
module _ (v k : ℕ) (h : k ≤ 4) (small : v < 2 ^ 32) where
  abbrev out : ℕ
  out = v / 2 ^ 1 / 2 ^ (31 - k)

  out_is : out ≡ v / 2 ^ (32 - k)
  out_is = let e : 1 + (31 - k) ≡ 32 - k = omega arith in shr-shr v 1 (31 - k) ∙ ap (λ (j : ℕ). v / 2 ^ j) e

  out_lt : out < 2 ^ k
  out_lt = let e : k + (32 - k) ≡ 32 = omega arith in rw out_is (shr_lt k (32 - k) (rw e small))

  pub out_few : out < 16
  out_few = fits_in 4 out_lt h

  -- k turns by the table
  pub turned_code : (table : List ℕ) → Fours table
      → bit_xor (get_or table out 0) (v * 2 ^ k % 2 ^ 32) ≡ num (turns k (bits_n 32 v))
  turned_code table f =
      ap (λ (x : ℕ). bit_xor x (v * 2 ^ k % 2 ^ 32))
      (few_rule table k out f h out_lt ∙ ap (λ (i : ℕ). num (remainder_of (bits_n k i))) out_is)
      ∙ sym (turns_code k v small (omega arith))

-- ---- bits of a byte

-- the first k bits of a byte, at the front of the register
abbrev placed : ℕ → ℕ → ℕ
placed x k = x / 2 ^ (8 - k) * 2 ^ (32 - k) % 2 ^ 32

num_placed : (x k : ℕ) → x < 256 → k ≤ 8 → num (take k (bits_n 8 x) ++ zeros (32 - k)) ≡ placed x k
num_placed x k h l =
    let j = 8 - k in
    let i = 32 - k in
    let e : k + j ≡ 8 = omega arith in
    let small : x / 2 ^ j < 2 ^ k = shr_lt k j (rw e h) in
    let first : num (take k (bits_n 8 x)) ≡ x / 2 ^ j =
    sym (num_shr (bits_n 8 x) k j (omega (arith, length_bits_n 8 x))) ∙ ap (λ (v : ℕ). v / 2 ^ j) (num_bits_n 8 x h) in
    num_shifted (take k (bits_n 8 x)) i
    ∙ ap (λ (v : ℕ). v * 2 ^ i) first
    ∙ sym (shl_exact {a = x / 2 ^ j} k i 32 small (omega arith))

-- taken in, and turned
after_code : (c x k : ℕ) → c < 2 ^ 32 → x < 256 → k ≤ 8
    → turns k (bits_n 32 (bit_xor c (placed x k))) ≡ fed (bits_n 32 c) (take k (bits_n 8 x))
after_code c x k hc hx hk =
    let b = take k (bits_n 8 x) in
    let t = b ++ zeros (32 - k) in
    let lb : length b ≡ k = length-take k (bits_n 8 x) ∙ omega (arith, length_bits_n 8 x) in
    let lt : length t ≡ 32 = length_zeros_after b (32 - k) ∙ omega arith in
    let lc : length (bits_n 32 c) ≡ 32 = length_bits_n 32 c in
    let m = mixed (bits_n 32 c) t in
    let lm : length m ≡ 32 = length_mixed (bits_n 32 c) t (omega arith) ∙ lc in
    let v : num m ≡ bit_xor c (placed x k) =
    num_mixed (bits_n 32 c) t (lc ∙ sym lt) ∙ ap₂ bit_xor (num_bits_n 32 c hc) (num_placed x k hx hk) in
    ap₂ turns (sym lb) (bits_n_is 32 (bit_xor c (placed x k)) m lm v)
    ∙ sym (fed_turns (bits_n 32 c) b (32 - k) lc (omega arith))

-- in two goes, the first of j bits
pub twice_code : (c x k j p q : ℕ) → c < 2 ^ 32 → x < 256 → k ≤ 8 → j ≤ k
    → p ≡ num (turns j (bits_n 32 (bit_xor c (placed x k)))) → q ≡ num (turns (k - j) (bits_n 32 p))
    → q ≡ num (fed (bits_n 32 c) (take k (bits_n 8 x)))
twice_code c x k j p q hc hx hk hj ep eq =
    let v = bits_n 32 (bit_xor c (placed x k)) in
    let e : j + (k - j) ≡ k = omega arith in
    let l : length v ≡ 32 = length_bits_n 32 (bit_xor c (placed x k)) in
    eq
    ∙ ap num
    (ap (turns (k - j)) (bits_n_is 32 p (turns j v) (length_turns j v l) (sym ep))
    ∙ sym (turns_add j (k - j) v l)
    ∙ ap (λ (i : ℕ). turns i v) e
    ∙ after_code c x k hc hx hk)

-- ---- what a frame begins with

-- all 1s, but for those that are left of them n places to the right
pub num_ones : (w n : ℕ) → num (ones w n) ≡ 2 ^ w - 1 - (2 ^ w - 1) / 2 ^ n
unfolding ones num bit
num_ones zero n = rw (zero-div (2 ^ n)) refl
num_ones (suc w) zero = num_zeros (suc w) ∙ omega arith
num_ones (suc w) (suc n) =
    let a = 2 ^ suc w - 1 in
    let h : a / 2 ≡ 2 ^ w - 1 = omega (arith, pow-suc 2 w, pow_pos w) in
    let e : a / 2 ^ suc n ≡ (2 ^ w - 1) / 2 ^ n =
    ap (λ (k : ℕ). a / 2 ^ k) (sym (one-add n)) ∙ sym (shr-shr a 1 n) ∙ ap (λ (x : ℕ). x / 2 ^ n) h in
    rw (length_ones w n, num_ones w n, e) (omega (arith, pow-suc 2 w, pow_pos w, shr_le (2 ^ w - 1) n))

pub num_full : (w n : ℕ) → w ≤ n → num (ones w n) ≡ 2 ^ w - 1
num_full w n h =
    let small : 2 ^ w - 1 < 2 ^ (0 + n) = rw (zero-add n) (lt_of_lt_of_le (ones_lt w) (pow_mono h)) in
    rw (num_ones w n, lt-one (shr_lt 0 n small)) (omega arith)

-- ---- the frame, a byte at a time

-- k bits more, of the byte after i whole ones
pub more_code : (s : List ℕ) (c : List Bool) (i k v r : ℕ) → length c ≡ 32 → k ≤ 8 → i < length s
    → v ≡ num (fed c (take (8 * i) (bits_of s))) → r ≡ num (fed (bits_n 32 v) (take k (bits_n 8 (get_or s i 0))))
    → r ≡ num (fed c (take (8 * i + k) (bits_of s)))
unfolding bits_of
more_code s c i k v r e hk h ev er =
    let b = take (8 * i) (bits_of s) in
    let x = bits_n 8 (get_or s i 0) in
    let t = bits_of (drop (suc i) s) in
    let rest : drop (8 * i) (bits_of s) ≡ x ++ t = sym (bits_of_drop i s) ∙ ap bits_of (drop-cons s i 0 h) in
    let front : take k (x ++ t) ≡ take k x = take-append-le k x t (omega (arith, length_bits_n 8 (get_or s i 0))) in
    let more : take (8 * i + k) (bits_of s) ≡ b ++ take k x =
    take-add (8 * i) k (bits_of s) ∙ ap (λ (y : List Bool). b ++ y) (ap (take k) rest ∙ front) in
    er ∙ ap num
    (ap (λ (y : List Bool). fed y (take k x)) (bits_n_is 32 v (fed c b) (length_fed c b e) (sym ev))
    ∙ sym (fed_append c b (take k x))
    ∙ ap (fed c) (sym more))

-- the register after the whole frame, complemented
pub fcs_code : (s : List ℕ) (n v : ℕ) → n ≤ 8 * length s → v ≡ num (fed (ones 32 n) (take n (bits_of s)))
    → 2 ^ 32 - 1 - v ≡ num (fcs_of (take n (bits_of s)))
unfolding fcs_of
fcs_code s n v h e =
    let m = take n (bits_of s) in
    let f = fed (ones 32 n) m in
    let l : length m ≡ n = length-take n (bits_of s) ∙ omega (arith, length_bits_of s) in
    let k : length f ≡ 32 = length_fed (ones 32 n) m (length_ones 32 n) in
    let frame : remainder_of (started m) ≡ f = fed_frame m ∙ ap (λ (j : ℕ). fed (ones 32 j) m) l in
    rw (frame, num_not f, k, e) refl
