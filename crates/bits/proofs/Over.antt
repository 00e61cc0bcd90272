-- The laws of `over`. Assumes nothing.
use mathlib.Core.Path.{◌≡◌, refl, sym, ap, ap₂, ◌∙◌}
use mathlib.Core.Bool.{Bool}
use mathlib.Core.List.{List, [], ◌++◌, append_assoc, append-nil}
use Prim.Native.Nat.{ℕ, ◌+◌, ◌-◌, ◌*◌, ◌≤◌}
use native.Mathlib.Nat.{add-zero, zero-add, add_assoc}
use native.Mathlib.Omega.{arith}
use lib.ListN.{length, take, drop, length-append, length-take, length-drop, take-append-drop}
use lib.Seq.{take-append-add, drop-append-add, take-append-le, drop-append-le, drop-length, take_at, drop_at, drop-drop}
use lib.Seq.{take-add, slice, length-take-le, length-slice, take-take}
use Rattle.bits.specs.Bits.{over, num, bits_n, bits_of, bytes_n, AllBytes}
use Rattle.bits.proofs.Numbers.{bits_n_is}
use Rattle.bits.proofs.Bytes.{length_bits_of, bits_of_append, bits_of_take, bits_of_drop, bits_of_bytes_n, bits_of_inj}
use Rattle.bits.proofs.Bytes.{bytes_n_bytes, bytes_append, bytes_drop}

pub length_over : (at : ℕ) (n l : List Bool) → at + length n ≤ length l → length (over at n l) ≡ length l
unfolding over
length_over at n l h =
    rw (
      length-append (take at l) (n ++ drop (at + length n) l),
      length-append n (drop (at + length n) l),
      length-take at l,
      length-drop (at + length n) l,
    ) (omega arith)

pub over_nil : (at : ℕ) (l : List Bool) → over at [] l ≡ l
unfolding over
over_nil at l = rw (add-zero at, take-append-drop at l) refl

pub over_right : (k : ℕ) (n p l : List Bool) → over (length p + k) n (p ++ l) ≡ p ++ over k n l
unfolding over
over_right k n p l =
    rw (
      take-append-add p l k,
      add_assoc (length p) k (length n),
      drop-append-add p l (k + length n),
      append_assoc p (take k l) (n ++ drop (k + length n) l),
    ) refl

pub over_left : (k : ℕ) (n l r : List Bool) → k + length n ≤ length l → over k n (l ++ r) ≡ over k n l ++ r
unfolding over
over_left k n l r h =
    rw (
      take-append-le k l r (omega arith),
      drop-append-le (k + length n) l r h,
      append_assoc (take k l) (n ++ drop (k + length n) l) r,
      append_assoc n (drop (k + length n) l) r,
    ) refl

pub over_all : (n l : List Bool) → length n ≡ length l → over 0 n l ≡ n
unfolding over
over_all n l e = rw (e, zero-add (length l), drop-length l, append-nil n) refl

-- two writes side by side
pub over_over : (at : ℕ) (a b l : List Bool) → at + length a + length b ≤ length l
    → over (at + length a) b (over at a l) ≡ over at (a ++ b) l
unfolding over
over_over at a b l h =
    let p = take at l ++ a in
    let d = drop (at + length a) l in
    let e : at + length a ≡ length p + 0 = rw (length-append (take at l) a, length-take at l) (omega arith) in
    ap (over (at + length a) b) (sym (append_assoc (take at l) a d)) ∙ ap (λ (n : ℕ). over n b (p ++ d)) e
    ∙ over_right 0 b p d
    ∙ rw (
      zero-add (length b),
      drop-drop (length b) (at + length a) l,
      append_assoc (take at l) a (b ++ drop (at + length a + length b) l),
      length-append a b,
      add_assoc at (length a) (length b),
      append_assoc a b (drop (at + (length a + length b)) l),
    ) refl

-- what was written is there
pub over_read : (at w : ℕ) (n l : List Bool) → at ≤ length l → length n ≡ w → take w (drop at (over at n l)) ≡ n
unfolding over
over_read at w n l h e =
    ap (take w) (drop_at (take at l) (n ++ drop (at + length n) l) at (length-take-le at l h))
    ∙ take_at n (drop (at + length n) l) w e

-- what stands before and after it is as it was
pub over_take : (k at : ℕ) (n l : List Bool) → k ≤ at → at ≤ length l → take k (over at n l) ≡ take k l
unfolding over
over_take k at n l h i =
    take-append-le k (take at l) (n ++ drop (at + length n) l) (rw (length-take at l) (omega arith))
    ∙ take-take k at l h

pub over_drop : (k at : ℕ) (n l : List Bool) → at + length n ≤ k → at + length n ≤ length l
    → drop k (over at n l) ≡ drop k l
unfolding over
over_drop k at n l h i =
    let e = at + length n in
    let p = take at l ++ n in
    let lp : length p ≡ e = rw (length-append (take at l) n, length-take at l) (omega arith) in
    let s : e + (k - e) ≡ k = omega arith in
    ap (drop k) (sym (append_assoc (take at l) n (drop e l)))
    ∙ ap (λ (x : ℕ). drop x (p ++ drop e l)) (sym s ∙ ap (λ (x : ℕ). x + (k - e)) (sym lp))
    ∙ drop-append-add p (drop e l) (k - e)
    ∙ drop-drop (k - e) e l
    ∙ ap (λ (x : ℕ). drop x l) s

-- a write of whole bytes is a write to the list of bytes
pub over_bytes : (k : ℕ) (n l : List ℕ)
    → over (8 * k) (bits_of n) (bits_of l) ≡ bits_of (take k l ++ (n ++ drop (k + length n) l))
unfolding over
over_bytes k n l =
    let e : 8 * k + length (bits_of n) ≡ 8 * (k + length n) = omega (arith, length_bits_of n) in
    rw (
      bits_of_append (take k l) (n ++ drop (k + length n) l),
      bits_of_append n (drop (k + length n) l),
      bits_of_take k l,
      bits_of_drop (k + length n) l,
      e,
    ) refl

-- whole bytes written at the start: these bytes, and after them what was there
pub bytes_written : (q : ℕ) (x : List Bool) (old new : List ℕ) → length x ≡ 8 * q → AllBytes old → AllBytes new
    → bits_of new ≡ over 0 x (bits_of old)
    → new ≡ bytes_n q x ++ drop (length (bytes_n q x)) old
bytes_written q x old new e ho hn w =
    let b = bytes_n q x in
    let whole : over 0 x (bits_of old) ≡ bits_of (b ++ drop (length b) old) =
    ap (λ (y : List Bool). over 0 y (bits_of old)) (sym (bits_of_bytes_n q x e)) ∙ over_bytes 0 b old
    ∙ rw (zero-add (length b)) refl in
    bits_of_inj new (b ++ drop (length b) old) hn
    (bytes_append b (drop (length b) old) (bytes_n_bytes q x) (bytes_drop (length b) old ho)) (w ∙ whole)

-- ---- a part of the whole

module _ (f t : ℕ) (l : List Bool) (o : f ≤ t) (h : t ≤ length l) where
  parts : l ≡ take f l ++ (slice f t l ++ drop t l)
  parts =
      sym (ap (λ (x : List Bool). x ++ (slice f t l ++ drop t l)) (sym (take-take f t l o))
      ∙ sym (append_assoc (take f (take t l)) (slice f t l) (drop t l))
      ∙ ap (λ (x : List Bool). x ++ drop t l) (take-append-drop f (take t l))
      ∙ take-append-drop t l)

  over_in : (k : ℕ) (n : List Bool) → f + k + length n ≤ t
      → over (f + k) n l ≡ take f l ++ (over k n (slice f t l) ++ drop t l)
  over_in k n i =
      let e : f + k ≡ length (take f l) + k = rw (length-take f l) (omega arith) in
      ap (over (f + k) n) parts
      ∙ ap (λ (x : ℕ). over x n (take f l ++ (slice f t l ++ drop t l))) e
      ∙ over_right k n (take f l) (slice f t l ++ drop t l)
      ∙ ap (λ (x : List Bool). take f l ++ x)
      (over_left k n (slice f t l) (drop t l) (rw (length-slice f t l h) (omega arith)))

  -- a write within a part is a write to the whole
  pub over_part : (k : ℕ) (n : List Bool) → f + k + length n ≤ t → over f (over k n (slice f t l)) l ≡ over (f + k) n l
  over_part k n i =
      let s = length-slice f t l h in
      let e : length (over k n (slice f t l)) ≡ length (slice f t l) = length_over k n (slice f t l) (omega arith) in
      ap (λ (x : ℕ). over x (over k n (slice f t l)) l) (sym (add-zero f))
      ∙ over_in 0 (over k n (slice f t l)) (omega arith)
      ∙ ap (λ (x : List Bool). take f l ++ (x ++ drop t l)) (over_all (over k n (slice f t l)) (slice f t l) e)
      ∙ sym (over_in k n i)

-- ---- a copy

pub copy_more : (s d : List Bool) (from to i w : ℕ) → from + i + w ≤ length s → to + i + w ≤ length d
    → over (to + i) (bits_n w (num (take w (drop (from + i) s)))) (over to (take i (drop from s)) d)
    ≡ over to (take (i + w) (drop from s)) d
copy_more s d from to i w hs hd =
    let q = take w (drop (from + i) s) in
    let p = take i (drop from s) in
    let lq : length q ≡ w = rw (length-take w (drop (from + i) s), length-drop (from + i) s) (omega arith) in
    let lp : length p ≡ i = rw (length-take i (drop from s), length-drop from s) (omega arith) in
    ap₂ (λ (k : ℕ) (x : List Bool). over (to + k) x (over to p d)) (sym lp) (bits_n_is w (num q) q lq refl)
    ∙ over_over to p q d (omega arith)
    ∙ ap (λ (x : List Bool). over to x d)
    (ap (λ (x : List Bool). p ++ take w x) (sym (drop-drop i from s)) ∙ sym (take-add i w (drop from s)))
