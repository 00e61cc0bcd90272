-- The laws of numbers in decimal and bytes in hexadecimal, one after another. Assumes nothing.
use mathlib.Core.Path.{◌≡◌, refl}
use mathlib.Core.List.{List, [], ◌∷◌, ◌++◌, append_assoc, append-nil}
use Prim.Native.Nat.{ℕ, ◌+◌, ◌/◌, ◌%◌, ◌<◌}
use native.Mathlib.Numerals.{add-one}
use native.Mathlib.Omega.{arith}
use lib.ListN.{length, take, get_or, set}
use lib.Seq.{take-suc}
use Rattle.text.specs.Text.{Wrote, decimal_of, spaced, hex_digit, hex_of}
use Rattle.text.proofs.Writing.{wrote_none, wrote_more, wrote_both}

spaced_append : (a b : List ℕ) → spaced (a ++ b) ≡ spaced a ++ spaced b
unfolding spaced
spaced_append [] b = refl
spaced_append (n ∷ ns) b = rw (spaced_append ns b, append_assoc (decimal_of n) (spaced ns) (spaced b)) refl

spaced_next : (ns : List ℕ) (i : ℕ) → i < length ns
    → spaced (take (i + 1) ns) ≡ (spaced (take i ns) ++ (32 ∷ [])) ++ decimal_of (get_or ns i 0)
unfolding spaced
spaced_next ns i h =
    let n = get_or ns i 0 in
    rw (
      add-one i,
      take-suc ns i 0 h,
      spaced_append (take i ns) (n ∷ []),
      append-nil (decimal_of n),
      append_assoc (spaced (take i ns)) (32 ∷ []) (decimal_of n),
    ) refl

-- one number more
pub wrote_number : (old : List ℕ) (at : ℕ) (ns : List ℕ) (i : ℕ) {mid new : List ℕ} {next after : ℕ} → i < length ns
    → next < length old
    → Wrote old at (spaced (take i ns)) mid next
    → Wrote (set mid next 32) (next + 1) (decimal_of (get_or ns i 0)) new after
    → Wrote old at (spaced (take (i + 1) ns)) new after
wrote_number old at ns i h g w v =
    rw (spaced_next ns i h)
    (wrote_both old at (spaced (take i ns) ++ (32 ∷ [])) (decimal_of (get_or ns i 0))
    (wrote_more old at (spaced (take i ns)) 32 w g) v (omega arith))

hex_of_append : (a b : List ℕ) → hex_of (a ++ b) ≡ hex_of a ++ hex_of b
unfolding hex_of
hex_of_append [] b = refl
hex_of_append (x ∷ xs) b = rw (hex_of_append xs b) refl

hex_of_next : (s : List ℕ) (i : ℕ) → i < length s
    → hex_of (take (i + 1) s)
    ≡ (hex_of (take i s) ++ (hex_digit (get_or s i 0 / 16) ∷ [])) ++ (hex_digit (get_or s i 0 % 16) ∷ [])
unfolding hex_of
hex_of_next s i h =
    let x = get_or s i 0 in
    rw (
      add-one i,
      take-suc s i 0 h,
      hex_of_append (take i s) (x ∷ []),
      append_assoc (hex_of (take i s)) (hex_digit (x / 16) ∷ []) (hex_digit (x % 16) ∷ []),
    ) refl

-- one byte more
pub wrote_byte : (old : List ℕ) (at : ℕ) (s : List ℕ) (i : ℕ) {new : List ℕ} {next : ℕ} → i < length s
    → next + 1 < length old
    → Wrote old at (hex_of (take i s)) new next
    → let high = set new next (hex_digit (get_or s i 0 / 16)) in
    Wrote old at (hex_of (take (i + 1) s)) (set high (next + 1) (hex_digit (get_or s i 0 % 16))) (next + 2)
wrote_byte old at s i {new} {next} h g w =
    let x = get_or s i 0 in
    let r = hex_of (take i s) in
    let m =
    wrote_more old at (r ++ (hex_digit (x / 16) ∷ [])) (hex_digit (x % 16))
    (wrote_more old at r (hex_digit (x / 16)) w (omega arith)) g in
    rw (hex_of_next s i h) (record { bytes = m.bytes; after = omega (arith, m.after) })

-- none yet
pub spaced_none : (old : List ℕ) (at : ℕ) → Wrote old at (spaced []) old at
unfolding spaced
spaced_none old at = wrote_none old at

pub hex_none : (old : List ℕ) (at : ℕ) → Wrote old at (hex_of []) old at
unfolding hex_of
hex_none old at = wrote_none old at
