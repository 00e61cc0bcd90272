-- The laws of what is shown of a lent output. Assumes nothing.
use mathlib.Core.Path.{◌≡◌, refl}
use mathlib.Core.Bool.{Bool, true, false, cond}
use mathlib.Core.List.{List, [], ◌∷◌}
use Prim.Native.Nat.{ℕ, zero, suc, ◌+◌, ◌≤◌, ◌<◌}
use native.Mathlib.Omega.{arith}
use lib.ListN.{length, take, drop, get_or, set, replicate}
use lib.Seq.{drop-cons}
use lib.Dec.{eqb}
use borrow.Author.Tests.{ne_eqb}
use mir.Val.{bool_byte}
use Rattle.std.specs.Bool.{MatchBool}
use Rattle.std.specs.List.{AllWithin, HoldsAt}
use Rattle.text.specs.Text.{Wrote, spaced, hex_of}
use Rattle.text.proofs.Writing.{wrote_none, wrote_more, wrote_both}
use Rattle.lines.specs.Lines.{hex_text, rest_of, shown_of}

-- ---- HEX

pub hex_some : (s : List ℕ) → (length s ≡ 0 → ⊥) → hex_text s ≡ hex_of s
unfolding hex_text
hex_some [] h = absurd (h refl)
hex_some (x ∷ xs) h = refl

pub wrote_dash : (old : List ℕ) (at : ℕ) (s : List ℕ) → length s ≡ 0 → at < length old
    → Wrote old at (hex_text s) (set old at 45) (at + 1)
unfolding hex_text
wrote_dash old at [] e h = wrote_more old at [] 45 (wrote_none old at) h
wrote_dash old at (x ∷ xs) e h = absurd (omega arith)

-- ---- REST

either_zero : (b : Bool) → cond {A = ℕ} b 0 0 ≡ 0
either_zero true = refl
either_zero false = refl

rest_all : (s : List ℕ) → ((k : ℕ) → k < length s → get_or s k 0 ≡ 90) → 1 ≡ rest_of s
unfolding rest_of
rest_all [] h = refl
rest_all (x ∷ xs) h = rw (h 0 (omega arith)) (rest_all xs (λ k l. h (suc k) (omega arith)))

not_all : (s : List ℕ) (k : ℕ) → k < length s → (get_or s k 0 ≡ 90 → ⊥) → 0 ≡ rest_of s
unfolding rest_of
not_all [] k h n = absurd (omega arith)
not_all (x ∷ xs) zero h n = rw (ne_eqb x 90 n) refl
not_all (x ∷ xs) (suc k) h n = rw (← not_all xs k (omega arith) n, either_zero (eqb x 90)) refl

-- of a rest that starts with another byte
pub rest_other : (s : List ℕ) (i : ℕ) → i < length s → (get_or s i 0 ≡ 90 → ⊥) → 0 ≡ rest_of (drop i s)
unfolding rest_of
rest_other s i h n = rw (drop-cons s i 0 h, ne_eqb (get_or s i 0) 90 n) refl

-- as it was found by going over the bytes
pub rest_found : (s : List ℕ) (r : Bool)
    → MatchBool r (AllWithin (λ x. x ≡ 90) s 0 (length s)) ((k : ℕ) × (k < length s) × HoldsAt (λ x. x ≡ 90 → ⊥) s k)
    → bool_byte r ≡ rest_of s
rest_found s true h = rest_all s (λ k l. h k 0 (omega arith) l)
rest_found s false h = not_all s h.0 h.1 (h.2 0)

-- ---- both

pub wrote_shown : (old : List ℕ) (at n : ℕ) (s : List ℕ) {mid new : List ℕ} {end next r : ℕ} → r ≡ rest_of (drop n s)
    → Wrote (set old at 32) (at + 1) (hex_text (take n s)) mid end → Wrote mid end (spaced (r ∷ [])) new next
    → at < length old → end ≤ length old → Wrote old at (shown_of n s) new next
unfolding shown_of
wrote_shown old at n s e u v h g =
    rw (← e)
    (wrote_both old at (32 ∷ hex_text (take n s)) _
    (wrote_both old at (32 ∷ []) (hex_text (take n s)) (wrote_more old at [] 32 (wrote_none old at) h) u
    (omega arith))
    v g)

-- ---- a lent output is the start of a longer run of the same bytes

pub take_same : (k n a : ℕ) → k ≤ n → take k (replicate n a) ≡ replicate k a
take_same zero n a h = refl
take_same (suc k) zero a h = absurd (omega arith)
take_same (suc k) (suc n) a h = rw (take_same k n a (omega arith)) refl
