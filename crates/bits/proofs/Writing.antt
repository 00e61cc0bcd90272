-- The number that is stored into bytes, and what `put` makes of it. Assumes nothing.
use mathlib.Core.Path.{◌≡◌, refl, sym, ap, ap₂, ◌∙◌}
use mathlib.Core.Bool.{Bool}
use mathlib.Core.List.{List, ◌++◌}
use Prim.Native.Nat.{ℕ, zero, suc, ◌+◌, ◌-◌, ◌*◌, ◌/◌, ◌%◌, ◌^◌, ◌≤◌, ◌<◌}
use native.Mathlib.Nat.{sub-zero, pow-suc, div-one}
use native.Mathlib.Omega.{arith}
use lib.Pow.{pow-add}
use lib.ListN.{length, take, drop, length-append, length-take, length-drop}
use lib.Seq.{drop-drop, slice}
use borrow.Rule.Slice.PartMut.{put_mid}
use Rattle.std.specs.Int.{byte_at, bytes_high_first}
use Rattle.std.proofs.lemmas.Slice.{between_is}
use Rattle.bits.specs.Bits.{over, num, bits_n, bits_of}
use Rattle.bits.proofs.Numbers.{length_bits_n, num_append, bits_n_add, bits_n_mod, bits_n_is, num_shr, num_low}
use Rattle.bits.proofs.Numbers.{num_bits_n}
use Rattle.bits.proofs.Bytes.{length_bits_of, length_bits_of_slice, bits_of_slice}
use Rattle.bits.proofs.Over.{length_over, over_bytes, over_part}

-- ---- a number's bytes

pow_256 : (k : ℕ) → 256 ^ k ≡ 2 ^ (8 * k)
pow_256 zero = refl
pow_256 (suc k) =
    let e : 8 * suc k ≡ 8 * k + 8 = omega arith in
    rw (e, pow-add 2 (8 * k) 8, pow-suc 256 k, pow_256 k) refl

byte_is : (k v : ℕ) → byte_at k v ≡ v / 2 ^ (8 * k) % 2 ^ 8
byte_is zero v = rw (div-one v) refl
byte_is (suc k) v = rw (pow_256 (suc k)) refl

-- the lowest k bytes, the highest of them first, have the lowest 8 k bits
bits_of_high_first : (k v : ℕ) → bits_of (bytes_high_first k v) ≡ bits_n (8 * k) v
unfolding bits_of bits_n
bits_of_high_first zero v = refl
bits_of_high_first (suc k) v =
    let e : 8 * suc k ≡ 8 + 8 * k = omega arith in
    ap₂ (λ (x y : List Bool). x ++ y) (ap (bits_n 8) (byte_is k v) ∙ bits_n_mod 8 (v / 2 ^ (8 * k)))
    (bits_of_high_first k v)
    ∙ sym (bits_n_add 8 (8 * k) v)
    ∙ ap (λ (n : ℕ). bits_n n v) (sym e)

drop_high_first : (j k v : ℕ) → drop j (bytes_high_first k v) ≡ bytes_high_first (k - j) v
drop_high_first zero k v = rw (sub-zero k) refl
drop_high_first (suc j) zero v = let e : zero - suc j ≡ zero = omega arith in rw e refl
drop_high_first (suc j) (suc k) v = let e : suc k - suc j ≡ k - j = omega arith in rw e (drop_high_first j k v)

-- the last n of a number's k bytes
pub bits_of_last : (n k v : ℕ) → n ≤ k → bits_of (drop (k - n) (bytes_high_first k v)) ≡ bits_n (8 * n) v
bits_of_last n k v h =
    let e : k - (k - n) ≡ n = omega arith in
    rw (drop_high_first (k - n) k v, e) (bits_of_high_first n v)

-- ---- put, in bytes that are one number

-- the number of m with v for the w bits after k, of which r follow
pub num_over : (m : List Bool) (k w r v : ℕ) → k + w + r ≡ length m → v < 2 ^ w
    → num (over k (bits_n w v) m) ≡ num m / 2 ^ (w + r) * 2 ^ (w + r) + (v * 2 ^ r + num m % 2 ^ r)
unfolding over
num_over m k w r v e h =
    rw (
      length_bits_n w v,
      num_append (take k m) (bits_n w v ++ drop (k + w) m),
      num_append (bits_n w v) (drop (k + w) m),
      length-append (bits_n w v) (drop (k + w) m),
      length_bits_n w v,
      num_bits_n w v h,
      length-drop (k + w) m,
      num_shr m k (w + r) (omega arith),
      num_low m (k + w) r e,
      sym_len,
    ) refl
  where
    sym_len : length m - (k + w) ≡ r
    sym_len = omega arith

-- what it says of the bytes' bits
pub put_field : (s : List ℕ) (at w v r : ℕ) → at + w + r ≡ 8 * length s → v < 2 ^ w
    → bits_n (8 * length s)
    (num (bits_of s) / 2 ^ (w + r) * 2 ^ (w + r) + (v * 2 ^ r + num (bits_of s) % 2 ^ r))
    ≡ over at (bits_n w v) (bits_of s)
put_field s at w v r e lt =
    let n = length_bits_of s in
    let l : length (over at (bits_n w v) (bits_of s)) ≡ length (bits_of s) =
    length_over at (bits_n w v) (bits_of s) (omega (arith, length_bits_n w v)) in
    bits_n_is (8 * length s) _ (over at (bits_n w v) (bits_of s)) (l ∙ n)
    (num_over (bits_of s) at w r v (omega arith) lt)

-- the same of all the bits, where these are the bytes from f up to t
pub put_window : (s : List ℕ) (at w v f t r : ℕ) → 8 * f ≤ at → at + w ≤ 8 * t → t ≤ length s → f ≤ t
    → r ≡ 8 * t - (at + w) → v < 2 ^ w
    → over (8 * f)
    (bits_n (8 * (t - f))
    (num (bits_of (slice f t s)) / 2 ^ (w + r) * 2 ^ (w + r) + (v * 2 ^ r + num (bits_of (slice f t s)) % 2 ^ r)))
    (bits_of s)
    ≡ over at (bits_n w v) (bits_of s)
put_window s at w v f t r h k l o er lt =
    let m = bits_of (slice f t s) in
    let n : length m ≡ 8 * (t - f) = length_bits_of_slice f t s l in
    let wv : length (bits_n w v) ≡ w = length_bits_n w v in
    let lb : length (bits_of s) ≡ 8 * length s = length_bits_of s in
    let j = at - 8 * f in
    let e : 8 * f + j ≡ at = omega arith in
    let is : bits_n (8 * (t - f)) (num m / 2 ^ (w + r) * 2 ^ (w + r) + (v * 2 ^ r + num m % 2 ^ r))
    ≡ over j (bits_n w v) m =
    bits_n_is (8 * (t - f)) _ (over j (bits_n w v) m) (length_over j (bits_n w v) m (omega arith) ∙ n)
    (num_over m j w r v (omega arith) lt) in
    ap (λ (x : List Bool). over (8 * f) x (bits_of s)) (is ∙ ap (over j (bits_n w v)) (bits_of_slice f t s))
    ∙ over_part (8 * f) (8 * t) (bits_of s) (omega arith) (omega arith) j (bits_n w v) (omega arith)
    ∙ ap (λ (x : ℕ). over x (bits_n w v) (bits_of s)) e

-- what it says of all the bits, where these are k bytes of more
pub put_part : (s new : List ℕ) (f k at : ℕ) (n : List Bool) → f + k ≤ length s → 8 * f ≤ at
    → at + length n ≤ 8 * (f + k)
    → bits_of new ≡ over (at - 8 * f) n (bits_of (take k (drop f s)))
    → bits_of (put_mid f k s new) ≡ over at n (bits_of s)
put_part s new f k at n h lo hi e =
    let lb = length_bits_of s in
    let b = bits_of (take k (drop f s)) in
    let lk : length (take k (drop f s)) ≡ k = rw (length-take k (drop f s), length-drop f s) (omega arith) in
    let lp : length b ≡ 8 * k = length_bits_of (take k (drop f s)) ∙ ap (λ (x : ℕ). 8 * x) lk in
    let l : length new ≡ k =
    omega (arith, length_bits_of new, ap length e, length_over (at - 8 * f) n b (omega arith)) in
    let k_is : f + k - f ≡ k = omega arith in
    let part : take k (drop f s) ≡ slice f (f + k) s = rw k_is at (between_is s f (f + k)) in
    let at_is : 8 * f + (at - 8 * f) ≡ at = omega arith in
    ap (λ (x : List ℕ). bits_of (take f s ++ (new ++ x))) (drop-drop k f s ∙ ap (λ (x : ℕ). drop (f + x) s) (sym l))
    ∙ sym (over_bytes f new s)
    ∙ ap (λ (x : List Bool). over (8 * f) x (bits_of s))
    (e ∙ ap (λ (x : List ℕ). over (at - 8 * f) n (bits_of x)) part
    ∙ ap (over (at - 8 * f) n) (bits_of_slice f (f + k) s))
    ∙ over_part (8 * f) (8 * (f + k)) (bits_of s) (omega arith) (omega arith) (at - 8 * f) n (omega arith)
    ∙ ap (λ (x : ℕ). over x n (bits_of s)) at_is
