-- The laws of bytes and their bits. Assumes nothing.
use mathlib.Core.Path.{◌≡◌, refl, sym, ap, ap₂, ◌∙◌}
use mathlib.Core.Bool.{Bool}
use mathlib.Core.List.{List, [], ◌∷◌, ◌++◌, append_assoc, append-nil}
use Prim.Native.Nat.{ℕ, zero, suc, ◌+◌, ◌-◌, ◌*◌, ◌/◌, ◌%◌, ◌^◌, ◌≤◌, ◌<◌}
use native.Mathlib.Omega.{arith}
use lib.ListN.{length, take, drop, get_or, length-append, length-take, length-drop, take-append-drop}
use lib.Bits.{bit_or, or_shifted_r}
use lib.Seq.{length-slice, take-nil, drop-nil, slice, slice-cons, slice_empty, drop-drop, take-append-add}
use lib.Seq.{drop-append-add, take_at, drop_at}
use lib.Pow.{shl_exact}
use Rattle.std.proofs.lemmas.List.{get_or_at}
use Rattle.bits.specs.Bits.{num, bits_n, bits_of, bytes_n, AllBytes}
use Rattle.bits.proofs.Numbers.{length_bits_n, num_append, num_lt, num_bits_n, bits_n_is, num_take_lt, num_field}
use Rattle.bits.proofs.Numbers.{take_of_drop, drop_of_take, num_shr}

pub length_bits_of : (s : List ℕ) → length (bits_of s) ≡ 8 * length s
unfolding bits_of
length_bits_of [] = refl
length_bits_of (x ∷ xs) = length-append (bits_n 8 x) (bits_of xs) ∙ omega (arith, length_bits_n 8 x, length_bits_of xs)

pub bits_of_append : (s t : List ℕ) → bits_of (s ++ t) ≡ bits_of s ++ bits_of t
unfolding bits_of
bits_of_append [] t = refl
bits_of_append (x ∷ xs) t = rw (bits_of_append xs t, append_assoc (bits_n 8 x) (bits_of xs) (bits_of t)) refl

pub bits_of_one : (x : ℕ) → bits_of (x ∷ []) ≡ bits_n 8 x
unfolding bits_of
bits_of_one x = append-nil (bits_n 8 x)

eight_suc : (n x : ℕ) → 8 * suc n ≡ length (bits_n 8 x) + 8 * n
eight_suc n x = omega (arith, length_bits_n 8 x)

pub bits_of_take : (n : ℕ) (s : List ℕ) → bits_of (take n s) ≡ take (8 * n) (bits_of s)
unfolding bits_of
bits_of_take zero s = refl
bits_of_take (suc n) [] = sym (take-nil (8 * suc n))
bits_of_take (suc n) (x ∷ xs) =
    rw (eight_suc n x, take-append-add (bits_n 8 x) (bits_of xs) (8 * n), bits_of_take n xs) refl

pub bits_of_drop : (n : ℕ) (s : List ℕ) → bits_of (drop n s) ≡ drop (8 * n) (bits_of s)
unfolding bits_of
bits_of_drop zero s = refl
bits_of_drop (suc n) [] = sym (drop-nil (8 * suc n))
bits_of_drop (suc n) (x ∷ xs) =
    rw (eight_suc n x, drop-append-add (bits_n 8 x) (bits_of xs) (8 * n), bits_of_drop n xs) refl

-- the bits of the bytes from f up to t
pub bits_of_slice : (f t : ℕ) (s : List ℕ) → bits_of (slice f t s) ≡ slice (8 * f) (8 * t) (bits_of s)
bits_of_slice f t s = bits_of_drop f (take t s) ∙ ap (drop (8 * f)) (bits_of_take t s)

-- ---- bytes of bits, and back

pub length_bytes_n : (n : ℕ) (b : List Bool) → length (bytes_n n b) ≡ n
unfolding bytes_n
length_bytes_n zero b = refl
length_bytes_n (suc n) b = ap suc (length_bytes_n n (drop 8 b))

pub bytes_n_bytes : (n : ℕ) (b : List Bool) → AllBytes (bytes_n n b)
unfolding bytes_n
bytes_n_bytes zero b = tt
bytes_n_bytes (suc n) b = (num_take_lt 8 b, bytes_n_bytes n (drop 8 b))

-- the bytes of a string of whole bytes have its bits
pub bits_of_bytes_n : (n : ℕ) (b : List Bool) → length b ≡ 8 * n → bits_of (bytes_n n b) ≡ b
unfolding bytes_n bits_of
bits_of_bytes_n zero [] e = refl
bits_of_bytes_n zero (x ∷ xs) e = absurd (omega arith)
bits_of_bytes_n (suc n) b e =
    ap₂ (λ (x y : List Bool). x ++ y)
    (bits_n_is 8 (num (take 8 b)) (take 8 b) (rw (length-take 8 b) (omega arith)) refl)
    (bits_of_bytes_n n (drop 8 b) (rw (length-drop 8 b) (omega arith)))
    ∙ take-append-drop 8 b

-- the bytes of the bits of bytes, whatever bits come after
pub bytes_n_bits_of : (s : List ℕ) (b : List Bool) → AllBytes s → bytes_n (length s) (bits_of s ++ b) ≡ s
unfolding bytes_n bits_of
bytes_n_bits_of [] b h = refl
bytes_n_bits_of (x ∷ xs) b h =
    let e : (bits_n 8 x ++ bits_of xs) ++ b ≡ bits_n 8 x ++ (bits_of xs ++ b) =
    append_assoc (bits_n 8 x) (bits_of xs) b in
    let l : length (bits_n 8 x) ≡ 8 = length_bits_n 8 x in
    ap₂ ◌∷◌
    (ap num (ap (take 8) e ∙ take_at (bits_n 8 x) (bits_of xs ++ b) 8 l) ∙ num_bits_n 8 x h.0)
    (ap (bytes_n (length xs)) (ap (drop 8) e ∙ drop_at (bits_n 8 x) (bits_of xs ++ b) 8 l) ∙ bytes_n_bits_of xs b h.1)

-- bytes are their bits
pub bits_of_inj : (s t : List ℕ) → AllBytes s → AllBytes t → bits_of s ≡ bits_of t → s ≡ t
bits_of_inj s t hs ht e =
    let l : length s ≡ length t = omega (arith, length_bits_of s, length_bits_of t, ap length e) in
    sym (bytes_n_bits_of s [] hs) ∙ ap₂ (λ (n : ℕ) (b : List Bool). bytes_n n (b ++ [])) l e ∙ bytes_n_bits_of t [] ht

-- what holds of each place holds of the list
pub all_bytes : (s : List ℕ) → ((i : ℕ) → get_or s i 0 < 256) → AllBytes s
all_bytes [] h = tt
all_bytes (x ∷ xs) h = (h 0, all_bytes xs (λ i. h (suc i)))

pub bytes_append : (a b : List ℕ) → AllBytes a → AllBytes b → AllBytes (a ++ b)
bytes_append [] b h k = k
bytes_append (x ∷ xs) b h k = (h.0, bytes_append xs b h.1 k)

pub bytes_drop : (n : ℕ) (s : List ℕ) → AllBytes s → AllBytes (drop n s)
bytes_drop zero s h = h
bytes_drop (suc n) [] h = tt
bytes_drop (suc n) (x ∷ xs) h = bytes_drop n xs h.1

-- ---- a number loaded from bytes, and a field of it

pub length_bits_of_slice : (f t : ℕ) (s : List ℕ) → t ≤ length s → length (bits_of (slice f t s)) ≡ 8 * (t - f)
length_bits_of_slice f t s h = length_bits_of (slice f t s) ∙ ap (λ (n : ℕ). 8 * n) (length-slice f t s h)

-- the last n bytes are loaded, and the others are left
pub record Loaded (s left : List ℕ) (n acc : ℕ) : Type 0 where
  pub last : List ℕ
  pub split : s ≡ left ++ last
  pub count : n ≡ length last
  pub value : acc ≡ num (bits_of last)

pub loaded_none : (s : List ℕ) → Loaded s s 0 0
unfolding num bits_of
loaded_none s = record { last = []; split = sym (append-nil s); count = refl; value = refl }

-- a turn of the loop that loads: one byte more, before those that were loaded
pub loaded_more : {s left left' : List ℕ} {n acc : ℕ} (x b : ℕ) → length s ≤ 8 → ((i : ℕ) → get_or s i 0 < 256)
    → left ≡ left' ++ (x ∷ []) → b ≡ x → Loaded s left n acc
    → Loaded s left' (n + 1) (bit_or acc (b * 2 ^ (8 * n) % 2 ^ 64))
unfolding bits_of
loaded_more {s} {left} {left'} {n} {acc} x b k bytes e eb l =
    let m = bits_of l.last in
    let split : s ≡ left' ++ (x ∷ l.last) =
    rw e at l.split ∙ append_assoc left' (x ∷ []) l.last in
    let at : get_or s (length left') 0 ≡ x =
    rw split (get_or_at left' x l.last 0 (length left') refl) in
    let lt : x < 256 = omega (arith, bytes (length left')) in
    let size : length m ≡ 8 * n = length_bits_of l.last ∙ ap (λ (j : ℕ). 8 * j) (sym l.count) in
    let small : acc < 2 ^ (8 * n) = rw (l.value, ← size) (num_lt m) in
    let short : n + 1 ≤ 8 = omega (arith, ap length split, length-append left' (x ∷ l.last), l.count) in
    record {
      last = x ∷ l.last;
      split = split;
      count = omega (arith, l.count);
      value =
          rw (
            eb,
            shl_exact {a = x} 8 (8 * n) 64 lt (omega arith),
            or_shifted_r x (8 * n) acc small,
            num_append (bits_n 8 x) m,
            num_bits_n 8 x lt,
            size,
            l.value,
          ) refl;
    }

pub loaded_all : {s left : List ℕ} {n acc : ℕ} → length left ≡ 0 → Loaded s left n acc → acc ≡ num (bits_of s)
loaded_all {left = []} e l = rw l.split l.value
loaded_all {left = x ∷ xs} e l = absurd (omega arith)

-- one byte as a number
pub num_byte : (s : List ℕ) (i : ℕ) → i < length s → get_or s i 0 < 256
    → num (bits_of (slice i (suc i) s)) ≡ get_or s i 0
num_byte s i h b =
    rw (
      slice-cons i (suc i) s 0 (omega arith) h,
      slice_empty (suc i) s,
      bits_of_one (get_or s i 0),
      num_bits_n 8 (get_or s i 0) b,
    ) refl

-- its bits but for the last a of them
pub num_byte_shr : (s : List ℕ) (i a : ℕ) → i < length s → get_or s i 0 < 256 → a ≤ 8
    → get_or s i 0 / 2 ^ a ≡ num (slice (8 * i) (8 * suc i - a) (bits_of s))
num_byte_shr s i a h b l =
    let e : 8 * suc i - a ≡ 8 * i + (8 - a) = omega arith in
    rw (
      e,
      ← num_byte s i h b,
      num_shr (bits_of (slice i (suc i) s)) (8 - a) a (omega (arith, length_bits_of_slice i (suc i) s h)),
      bits_of_slice i (suc i) s,
      take_of_drop (8 - a) (8 * i) (8 * suc i) (bits_of s) (omega arith),
      drop_of_take (8 * i) (8 - a) (bits_of s),
    ) refl

-- a field, from the bytes that hold it
pub field_of : (s : List ℕ) (at w f t : ℕ) → 8 * f ≤ at → at + w ≤ 8 * t → t ≤ length s
    → take w (drop (at - 8 * f) (bits_of (slice f t s))) ≡ take w (drop at (bits_of s))
field_of s at w f t h k l =
    let e : 8 * f + (at - 8 * f) ≡ at = omega arith in
    rw (bits_of_slice f t s, drop-drop (at - 8 * f) (8 * f) (take (8 * t) (bits_of s)), e)
    (take_of_drop w at (8 * t) (bits_of s) k)

pub get_field : (s : List ℕ) (at w f t acc : ℕ) → 8 * f ≤ at → at + w ≤ 8 * t → t ≤ length s → f ≤ t
    → acc ≡ num (bits_of (slice f t s)) → acc / 2 ^ (8 * t - (at + w)) % 2 ^ w ≡ num (take w (drop at (bits_of s)))
get_field s at w f t acc h k l o e =
    let n = length_bits_of_slice f t s l in
    rw (e, num_field (bits_of (slice f t s)) (at - 8 * f) w (8 * t - (at + w)) (omega arith), field_of s at w f t h k l)
    refl
