-- A table's rule, from one test over the whole table. Assumes nothing.
use mathlib.Core.Path.{◌≡◌, refl}
use mathlib.Core.Bool.{Bool, true, false}
use mathlib.Core.List.{List, [], ◌∷◌}
use Prim.Native.Nat.{ℕ, zero, suc}
use lib.Dec.{T}
use lib.ListN.{get_or}
use Rattle.std.specs.List.{list_all}
use Rattle.bits.proofs.Tests.{both}

-- a test that passes, as an equation
pub T_true : (a : Bool) → T a → a ≡ true
T_true true t = refl
T_true false t = absurd t

-- the test passes at each entry and at what stands for a place past the end, so it passes at any place
pub at_any : {A : Type 0} (f : A → Bool) (xs : List A) (d : A) → T (list_all f xs) → T (f d) → (n : ℕ)
    → T (f (get_or xs n d))
at_any f [] d t e n = e
at_any f (x ∷ xs) d t e zero = (both (f x) (list_all f xs) t).0
at_any f (x ∷ xs) d t e (suc n) = at_any f xs d (both (f x) (list_all f xs) t).1 e n
