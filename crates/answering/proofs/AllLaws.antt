-- Each member of a list. Assumes nothing.
use mathlib.Core.List.{List, ◌++◌}
use Prim.Native.Nat.{ℕ, zero, suc}
use lib.ListN.{drop}
use Rattle.answering.specs.Laid.{All, none, more}

module _ {A : Type 0} {P : A → Type 0} where
  pub all_append : {a b : List A} → All P a → All P b → All P (a ++ b)
  all_append none q = q
  all_append (more x p) q = more x (all_append p q)

  pub all_drop : (n : ℕ) {l : List A} → All P l → All P (drop n l)
  all_drop zero p = p
  all_drop (suc n) none = none
  all_drop (suc n) (more x p) = all_drop n p

  pub all_map : {Q : A → Type 0} {l : List A} → ((x : A) → P x → Q x) → All P l → All Q l
  all_map f none = none
  all_map f (more {x} p q) = more (f x p) (all_map f q)
