-- The laws of numbers in a list: whether one is there, and one put in front. Assumes nothing.
use mathlib.Core.Path.{◌≡◌, refl, ap, ◌∙◌}
use mathlib.Core.Bool.{Bool, true, false, cond, ◌||◌}
use mathlib.Core.List.{List, [], ◌∷◌, ◌++◌, append-nil}
use Prim.Native.Nat.{ℕ}
use native.Mathlib.Omega.{arith}
use lib.Dec.{eqb}
use lib.ListN.{length, take, set, drop_of_length-le}
use Rattle.std.specs.List.{copy_within, list_any}
use Rattle.bookings.specs.Kept.{is_in}

pub either : (t : Bool) → cond t true true ≡ true
either true = refl
either false = refl

or_else : (t : Bool) {a b : Bool} → a ≡ b → (t || a) ≡ cond t true b
or_else true e = refl
or_else false e = e

-- what the library's test for a number says
pub any_is : (x : ℕ) (s : List ℕ) → list_any (λ (y : ℕ). eqb y x) s ≡ is_in x s
any_is x [] = refl
any_is x (y ∷ s) = or_else (eqb y x) (any_is x s)

-- all moved back, and the first written
pub pushed_all : (x : ℕ) (s : List ℕ) → length s ≡ 32 → set (copy_within s 0 31 1) 0 x ≡ x ∷ take 31 s
pushed_all x [] h = absurd (omega arith)
pushed_all x (y ∷ s) h =
    rw (drop_of_length-le (y ∷ s) {i = 32} (omega arith)) (ap (◌∷◌ x) (append-nil (take 31 (y ∷ s))))

-- the same, as the array is written: one in front, and a copy of the others
pub put_in_front : (x : ℕ) (s : List ℕ) {new : List ℕ} → new ≡ take 31 s → x ∷ (new ++ []) ≡ x ∷ take 31 s
put_in_front x s {new} e = ap (◌∷◌ x) (append-nil new ∙ e)
