-- The laws of joining runs of bits. Assumes nothing.
use mathlib.Core.Path.{◌≡◌, refl, ap, ◌∙◌, sym}
use mathlib.Core.Bool.{Bool}
use mathlib.Core.List.{List, [], ◌∷◌, ◌++◌, append_assoc, append-nil}
use Prim.Native.Nat.{ℕ}
use lib.ListN.{take, drop, take-append-drop}
use Rattle.bits.specs.Runs.{joined}

-- joining is associative
pub join_assoc : (a b c : List Bool) → (a ++ b) ++ c ≡ a ++ (b ++ c)
join_assoc a b c = append_assoc a b c

-- the empty run is neutral
pub join_none_left : (a : List Bool) → [] ++ a ≡ a
join_none_left a = refl

pub join_none_right : (a : List Bool) → a ++ [] ≡ a
join_none_right a = append-nil a

-- runs joined in two lots
pub joined_append : (a b : List (List Bool)) → joined (a ++ b) ≡ joined a ++ joined b
joined_append [] b = refl
joined_append (r ∷ rs) b =
    ap (λ (x : List Bool). r ++ x) (joined_append rs b) ∙ sym (join_assoc r (joined rs) (joined b))

-- a run cut in two
pub joined_cut : (n : ℕ) (r : List Bool) → joined (take n r ∷ drop n r ∷ []) ≡ r
joined_cut n r = ap (λ (x : List Bool). take n r ++ x) (append-nil (drop n r)) ∙ take-append-drop n r
