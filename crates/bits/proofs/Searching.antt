-- The search for the last 1, byte by byte from the end. Assumes nothing.
use mathlib.Core.Path.{◌≡◌, refl, sym, ap, ◌∙◌}
use mathlib.Core.Bool.{Bool, true, false}
use mathlib.Core.List.{List, [], ◌∷◌, ◌++◌}
use mathlib.Core.Option.{Option, none, some}
use Prim.Native.Nat.{ℕ, zero, suc, ◌+◌, ◌-◌, ◌*◌, ◌/◌, ◌%◌, ◌^◌, ◌≤◌, ◌<◌}
use native.Mathlib.Nat.{pow-suc, lt_of_not-le}
use native.Mathlib.Numerals.{add-one}
use native.Mathlib.Omega.{arith}
use lib.Count.{count_trailing_zeros, under}
use lib.ListN.{length, take, drop, get_or, replicate, length-take, length-drop, length-append, take-append-drop}
use lib.Pow.{pow_mono, shr_lt, mod-pow-add, split}
use lib.Seq.{slice, length-slice, drop-append-le, take-take}
use Rattle.bits.specs.Bits.{num, bits_of}
use Rattle.bits.specs.Fill.{before, strip, found_at}
use Rattle.std.specs.Prelude as rust
use Rattle.std.specs.Prelude.{Some, None}
use Rattle.bits.proofs.Numbers.{bits_n_zero, bits_n_is, num_low, num_lt, fits_in}
use Rattle.bits.proofs.Bytes.{length_bits_of, num_byte_shr}
use Rattle.bits.proofs.Filling.{strip_at, strip_zeros, strip_lt, fill_start}

-- 0s after a string leave its last 1 where it is
strip_before : (a z : List Bool) → strip z ≡ none → strip (a ++ z) ≡ strip a
unfolding strip
strip_before [] z e = e
strip_before (x ∷ xs) z e = ap (before x) (strip_before xs z e)

-- what stands before a string moves its last 1 on
strip_after : (a z m : List Bool) → strip z ≡ some m → strip (a ++ z) ≡ some (a ++ m)
unfolding strip before
strip_after [] z m e = e
strip_after (x ∷ xs) z m e = ap (before x) (strip_after xs z m e)

-- a number's lowest 1 and the 0s below it
trailing_low : (w v : ℕ) → 0 < v → v < 2 ^ w → v % 2 ^ suc (count_trailing_zeros w v) ≡ 2 ^ count_trailing_zeros w v
unfolding count_trailing_zeros
trailing_low zero v h l = absurd (omega arith)
trailing_low (suc w) v h l =
    by_lowest (v % 2) refl λ e. trailing_low w (v / 2) (omega arith) (shr_lt w 1 (rw (add-one w) l))
  where
    by_lowest : (r : ℕ) → v % 2 ≡ r
        → (v % 2 ≡ 0 → v / 2 % 2 ^ suc (count_trailing_zeros w (v / 2)) ≡ 2 ^ count_trailing_zeros w (v / 2))
        → v % 2 ^ suc (under r (count_trailing_zeros w (v / 2))) ≡ 2 ^ under r (count_trailing_zeros w (v / 2))
    by_lowest zero e ih =
        let t = count_trailing_zeros w (v / 2) in
        rw (← add-one (suc t), mod-pow-add v (suc t) 1, ih e, e) (omega (arith, pow-suc 2 t))
    by_lowest (suc r) e ih = omega arith

module _ (b : List Bool) where
  -- no 1: the number is 0
  num_none : num b ≡ 0 → strip b ≡ none
  num_none e = rw (sym (bits_n_is (length b) 0 b refl e) ∙ bits_n_zero (length b)) (strip_zeros (length b))

  -- a 1: so many 0s after the last one as the number ends with
  num_some : (w : ℕ) → 0 < num b → length b ≤ w
      → (m : List Bool) × (strip b ≡ some m) × (length m + suc (count_trailing_zeros w (num b)) ≡ length b)
  num_some w h l =
      let n = length b in
      let t = count_trailing_zeros w (num b) in
      let low : num b % 2 ^ suc t ≡ 2 ^ t = trailing_low w (num b) h (fits_in w (num_lt b) l) in
      let fits : t < n =
      lt_of_not-le λ g. omega (arith, low, split (num b) (suc t), num_lt b, pow_mono {j = t} g) in
      let k = n - suc t in
      let e : k + suc t ≡ n = omega arith in
      let end : drop k b ≡ true ∷ replicate t false =
      sym (bits_n_is (suc t) (2 ^ t) (drop k b) (rw (length-drop k b) (omega arith))
      (sym (num_low b k (suc t) e) ∙ low))
      ∙ fill_start t in (
        take k b,
        ap strip (sym (take-append-drop k b) ∙ ap (λ (x : List Bool). take k b ++ x) end)
            ∙ strip_at (take k b) (replicate t false) (strip_zeros t),
        rw (length-take k b) (omega arith),
      )

slice_split : (f j t : ℕ) (l : List Bool) → f ≤ j → j ≤ t → t ≤ length l → slice f t l ≡ slice f j l ++ slice j t l
slice_split f j t l h k i =
    ap (drop f) (sym (take-append-drop j (take t l)))
    ∙ drop-append-le f (take j (take t l)) (slice j t l) (rw (length-take j (take t l), length-take t l) (omega arith))
    ∙ ap (λ (x : List Bool). drop f x ++ slice j t l) (take-take j t l k)

-- what a look at byte j, but for its last a bits, tells of a room
pub record Turn (s : List ℕ) (from to j a : ℕ) : Type 0 where
  pub more : get_or s j 0 / 2 ^ a ≡ 0 → strip (slice (8 * j) to (bits_of s)) ≡ none
  pub found : 0 < get_or s j 0 / 2 ^ a
      → (count_trailing_zeros 8 (get_or s j 0 / 2 ^ a) ≤ 8 * j + 7 - a)
      × (Some (8 * j + 7 - a - count_trailing_zeros 8 (get_or s j 0 / 2 ^ a))
      ≡ found_at from (strip (slice from to (bits_of s))))

-- where these bits stand after the room, and there is no 1 after the byte
module _ (s : List ℕ) (from to i j a : ℕ) (n : i ≡ suc j) (f : from ≤ 8 * j) (h : 8 * j < to) (t : to ≤ 8 * length s)
    (e : a ≡ 8 * i - to) (b : get_or s j 0 < 256) (z : strip (slice (8 * i - a) to (bits_of s)) ≡ none) where
  looked : List Bool
  looked = slice (8 * j) (8 * i - a) (bits_of s)

  length_looked : length looked + a ≡ 8
  unfolding looked
  length_looked =
      rw (length-slice (8 * j) (8 * i - a) (bits_of s) (omega (arith, length_bits_of s))) (omega arith)

  value : get_or s j 0 / 2 ^ a ≡ num looked
  unfolding looked
  value =
      num_byte_shr s j a (omega arith) b (omega arith)
      ∙ ap (λ (k : ℕ). num (slice (8 * j) (8 * k - a) (bits_of s))) (sym n)

  split_here : slice (8 * j) to (bits_of s) ≡ looked ++ slice (8 * i - a) to (bits_of s)
  unfolding looked
  split_here =
      slice_split (8 * j) (8 * i - a) to (bits_of s) (omega arith) (omega arith) (omega (arith, length_bits_of s))

  at_last : (k : ℕ) (m : List Bool) → strip looked ≡ some m → length m + suc k ≡ length looked
      → (k ≤ 8 * j + 7 - a) × (Some (8 * j + 7 - a - k) ≡ found_at from (strip (slice from to (bits_of s))))
  unfolding found_at
  at_last k m o l =
      let start = slice from (8 * j) (bits_of s) in
      let ll : length looked + a ≡ 8 = length_looked in
      let ls : from + length start ≡ 8 * j =
      rw (length-slice from (8 * j) (bits_of s) (omega (arith, length_bits_of s))) (omega arith) in
      let place : from + length (start ++ m) ≡ 8 * j + 7 - a - k = rw (length-append start m) (omega arith) in (
        omega arith,
        rw (
          slice_split from (8 * j) to (bits_of s) f (omega arith) (omega (arith, length_bits_of s)),
          split_here,
          strip_after start (looked ++ slice (8 * i - a) to (bits_of s)) m
              (strip_before looked (slice (8 * i - a) to (bits_of s)) z ∙ o),
          place,
        ) refl,
      )

  pub turn : Turn s from to j a
  turn =
      record {
        more =
            λ v. rw (split_here, strip_before looked (slice (8 * i - a) to (bits_of s)) z)
            (num_none looked (sym value ∙ v));
        found =
            λ v.
            let q = num_some looked 8 (rw value at v) (omega (arith, length_looked)) in
            rw value (at_last (count_trailing_zeros 8 (num looked)) q.0 q.1 q.2);
      }

-- the room from bit `from` on, in one that starts earlier: a 1 before `from` is none of its own
abbrev pub Within : ℕ → rust.Option ℕ → rust.Option ℕ → Type 0
Within from (Some i) r = (i < from → None ≡ r) × (from ≤ i → Some i ≡ r)
Within from None r = None ≡ r

module _ (lo from : ℕ) (early own : List Bool) (n : lo + length early ≡ from) where
  within_early : (o : Option (List Bool)) → strip early ≡ o → Within from (found_at lo o) None
  unfolding found_at
  within_early (some m) e = (λ g. refl, λ g. absurd (omega (arith, strip_lt early m e)))
  within_early none e = refl

  within_own : (o : Option (List Bool)) → strip own ≡ o
      → Within from (found_at lo (strip (early ++ own))) (found_at from o)
  unfolding found_at
  within_own (some m) e =
      let p : lo + length (early ++ m) ≡ from + length m = rw (length-append early m) (omega arith) in
      rw (strip_after early own m e, p) (λ g. absurd (omega arith), λ g. refl)
  within_own none e = rw (strip_before early own e) (within_early (strip early) refl)

pub last_within : (l : List Bool) (lo from to : ℕ) → lo ≤ from → from ≤ to → to ≤ length l
    → Within from (found_at lo (strip (slice lo to l))) (found_at from (strip (slice from to l)))
last_within l lo from to h k t =
    rw (slice_split lo from to l h k t)
    (within_own lo from (slice lo from l) (slice from to l) (rw (length-slice lo from l (omega arith)) (omega arith))
    (strip (slice from to l)) refl)
