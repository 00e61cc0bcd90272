-- The laws of fill, added and deleted. Assumes nothing.
use mathlib.Core.Path.{◌≡◌, refl, sym, ap, ap₂, ◌∙◌}
use mathlib.Core.Bool.{Bool, true, false}
use mathlib.Core.List.{List, [], ◌∷◌, ◌++◌, append-nil}
use mathlib.Core.Option.{Option, none, some}
use Prim.Native.Nat.{ℕ, zero, suc, ◌+◌, ◌-◌, ◌*◌, ◌/◌, ◌^◌, ◌≤◌, ◌<◌}
use native.Mathlib.Nat.{add-zero, one-mul, sub_self, sub-zero, div_self}
use native.Mathlib.Omega.{arith}
use lib.ListN.{length, replicate, length-replicate, length-append, replicate-append-replicate}
use lib.Pow.{pow_pos}
use Rattle.bits.specs.Bits.{bits_n, test_bit, over}
use Rattle.bits.specs.Fill.{before, strip, fill_bits, filled}
use Rattle.bits.proofs.Numbers.{bits_n_high, bits_n_zero}
use Rattle.bits.proofs.Over.{over_over}

pub strip_none : (r : List Bool) → strip r ≡ none → strip (false ∷ r) ≡ none
unfolding strip before
strip_none r e = rw e refl

pub strip_at : (a r : List Bool) → strip r ≡ none → strip (a ++ true ∷ r) ≡ some a
unfolding strip before
strip_at [] r e = rw e refl
strip_at (x ∷ xs) r e = rw (strip_at xs r e) refl

pub strip_zeros : (n : ℕ) → strip (replicate n false) ≡ none
unfolding strip before
strip_zeros zero = refl
strip_zeros (suc n) = strip_none (replicate n false) (strip_zeros n)

pub length_fill_bits : (n : ℕ) → length (fill_bits n) ≡ n
unfolding fill_bits
length_fill_bits zero = refl
length_fill_bits (suc n) = ap suc (length-replicate n false)

-- deleting the fill that was added gives the message back
pub strip_fill : (m : List Bool) (n : ℕ) → strip (m ++ fill_bits (suc n)) ≡ some m
unfolding fill_bits
strip_fill m n = strip_at m (replicate n false) (strip_zeros n)

pub strip_filled : (room : ℕ) (m : List Bool) → length m < room → strip (filled room m) ≡ some m
unfolding filled
strip_filled room m h =
    let e : room - length m ≡ suc (room - suc (length m)) = omega arith in
    rw e (strip_fill m (room - suc (length m)))

pub length_filled : (room : ℕ) (m : List Bool) → length m ≤ room → length (filled room m) ≡ room
unfolding filled
length_filled room m h =
    length-append m (fill_bits (room - length m)) ∙ omega (arith, length_fill_bits (room - length m))

-- a room that no bit is left of has no fill
pub filled_none : (m : List Bool) → filled (length m) m ≡ m
unfolding filled fill_bits
filled_none m = rw (sub_self (length m)) (append-nil m)

-- ---- what a string is that fill was deleted from

none_first : (x : Bool) (o : Option (List Bool)) → before x o ≡ none → (x ≡ false) × (o ≡ none)
unfolding before
none_first x (some r) e = let z : ◌≡◌ {A = ℕ} 0 1 = cc in absurd (omega arith)
none_first true none e = let z : ◌≡◌ {A = ℕ} 0 1 = cc in absurd (omega arith)
none_first false none e = (refl, refl)

-- no 1: all 0s
pub strip_none_is : (b : List Bool) → strip b ≡ none → b ≡ replicate (length b) false
unfolding strip
strip_none_is [] e = refl
strip_none_is (x ∷ xs) e = let f = none_first x (strip xs) e in ap₂ ◌∷◌ f.0 (strip_none_is xs f.1)

some_first : (x : Bool) (xs m : List Bool) (o : Option (List Bool)) → strip xs ≡ o
    → ((r : List Bool) → strip xs ≡ some r → xs ≡ filled (length xs) r)
    → before x o ≡ some m → x ∷ xs ≡ filled (suc (length xs)) m
unfolding before filled fill_bits
some_first x xs m (some r) s ih e =
    let em : m ≡ x ∷ r = cc in
    let d : suc (length xs) - suc (length r) ≡ length xs - length r = omega arith in
    rw (em, d) (ap (◌∷◌ x) (ih r s))
some_first true xs m none s ih e =
    let em : m ≡ [] = cc in rw (em, sub-zero (suc (length xs))) (ap (◌∷◌ true) (strip_none_is xs s))
some_first false xs m none s ih e = let z : ◌≡◌ {A = ℕ} 0 1 = cc in absurd (omega arith)

-- a 1: the message before the last one, and fill
pub strip_is : (b m : List Bool) → strip b ≡ some m → b ≡ filled (length b) m
unfolding strip
strip_is [] m e = let z : ◌≡◌ {A = ℕ} 0 1 = cc in absurd (omega arith)
strip_is (x ∷ xs) m e = some_first x xs m (strip xs) refl (λ r s. strip_is xs r s) e

some_shorter : (x : Bool) (xs m : List Bool) (o : Option (List Bool))
    → ((r : List Bool) → o ≡ some r → length r < length xs) → before x o ≡ some m
    → length m < suc (length xs)
unfolding before
some_shorter x xs m (some r) ih e = let em : m ≡ x ∷ r = cc in rw em (let h = ih r refl in omega arith)
some_shorter true xs m none ih e = let em : m ≡ [] = cc in rw em (omega arith)
some_shorter false xs m none ih e = let z : ◌≡◌ {A = ℕ} 0 1 = cc in absurd (omega arith)

-- fill takes a bit at least
pub strip_lt : (b m : List Bool) → strip b ≡ some m → length m < length b
unfolding strip
strip_lt [] m e = let z : ◌≡◌ {A = ℕ} 0 1 = cc in absurd (omega arith)
strip_lt (x ∷ xs) m e = some_shorter x xs m (strip xs) (λ r s. strip_lt xs r s) e

-- ---- fill, 56 bits at a time

-- the 1 and the 0s that are put with it
pub fill_start : (m : ℕ) → bits_n (suc m) (2 ^ m) ≡ true ∷ replicate m false
unfolding bits_n test_bit
fill_start m =
    let one : 2 ^ m / 2 ^ m ≡ 1 = div_self (pow_pos m) in
    let zeros : bits_n m (2 ^ m) ≡ bits_n m 0 =
    ap (bits_n m) (sym (one-mul (2 ^ m)) ∙ sym (add-zero (1 * 2 ^ m))) ∙ bits_n_high m 1 0 in
    rw (one, zeros, bits_n_zero m) refl

pub clear_more : (from i w : ℕ) (b : List Bool) → from ≤ i → i + w ≤ length b
    → over i (bits_n w 0) (over from (replicate (i - from) false) b) ≡ over from (replicate (i + w - from) false) b
clear_more from i w b h l =
    let f = replicate (i - from) false in
    let lf : length f ≡ i - from = length-replicate (i - from) false in
    let e : i ≡ from + length f = omega arith in
    let m : i - from + w ≡ i + w - from = omega arith in
    rw (bits_n_zero w)
    (ap (λ (x : ℕ). over x (replicate w false) (over from f b)) e
    ∙ over_over from f (replicate w false) b (rw (length-replicate w false) (omega arith))
    ∙ ap (λ (x : List Bool). over from x b)
    (replicate-append-replicate (i - from) w false ∙ ap (λ (n : ℕ). replicate n false) m))

-- and the 0s after them
pub fill_end : (at to w m : ℕ) (b : List Bool) → w ≡ suc m → at + w ≤ to → to ≤ length b
    → over (at + w) (replicate (to - (at + w)) false) (over at (bits_n w (2 ^ m)) b) ≡ over at (fill_bits (to - at)) b
unfolding fill_bits
fill_end at to w m b ew h l =
    let n = to - (at + w) in
    let e : to - at ≡ suc (m + n) = omega arith in
    let a = true ∷ replicate m false in
    let la : length a ≡ w = ap suc (length-replicate m false) ∙ sym ew in
    let start : bits_n w (2 ^ m) ≡ a = ap (λ (k : ℕ). bits_n k (2 ^ m)) ew ∙ fill_start m in
    rw (e, start)
    (ap (λ (k : ℕ). over (at + k) (replicate n false) (over at a b)) (sym la)
    ∙ over_over at a (replicate n false) b (rw (length-replicate n false) (omega arith))
    ∙ ap (λ (x : List Bool). over at (true ∷ x) b) (replicate-append-replicate m n false))
