-- The laws of fault chains. Assumes nothing.
use mathlib.Core.Path.{◌≡◌, refl, ap}
use mathlib.Core.Bool.{Bool, true, false}
use mathlib.Core.List.{List, [], ◌∷◌, ◌++◌}
use Prim.Native.Nat.{ℕ, zero, suc, ◌≤◌, ◌<◌}
use native.Mathlib.Omega.{arith}
use Rattle.std.proofs.Common.{rules}
use lib.Dec.{eqb, ltb, leb}
use borrow.Author.Tests.{leb-true, ltb-true, eqb-true}
use Rattle.blocks.specs.Faults.{number_of, unless, first_of, AllZero, GivenFirst}
use Rattle.blocks.specs.declared.fault.Fault.{Fault}

-- a chain that gives nothing: each of its rules holds
pub all_zero : (ns : List ℕ) → first_of ns ≡ 0 → AllZero ns
all_zero [] e = tt
all_zero (zero ∷ ns) e = (refl, all_zero ns e)
all_zero (suc n ∷ ns) e = absurd (omega arith)

pub zero_split : (a b : List ℕ) → AllZero (a ++ b) → AllZero a × AllZero b
zero_split [] b z = (tt, z)
zero_split (n ∷ ns) b z = let r = zero_split ns b z.1 in ((z.0, r.0), r.1)

-- what follows from the rules of a chain, where each of them holds
abbrev pub ByRules : List ℕ → Type 0 → Type 0
ByRules [] P = P
ByRules (n ∷ ns) P = n ≡ 0 → ByRules ns P

pub by_rules : {P : Type 0} (ns : List ℕ) → first_of ns ≡ 0 → ByRules ns P → P
by_rules [] e f = f
by_rules (zero ∷ ns) e f = by_rules ns e (f refl)
by_rules (suc n ∷ ns) e f = absurd (omega arith)

-- ---- what a rule says that holds

pub holds : (t : Bool) (n : ℕ) → unless t (suc n) ≡ 0 → t ≡ true
holds true n e = refl
holds false n e = absurd (omega arith)

pub le_holds : (a b n : ℕ) → unless (leb a b) (suc n) ≡ 0 → a ≤ b
le_holds a b n e = leb-true a b (holds (leb a b) n e)

pub lt_holds : (a b n : ℕ) → unless (ltb a b) (suc n) ≡ 0 → a < b
lt_holds a b n e = ltb-true a b (holds (ltb a b) n e)

pub eq_holds : (a b n : ℕ) → unless (eqb a b) (suc n) ≡ 0 → a ≡ b
eq_holds a b n e = eqb-true a b (holds (eqb a b) n e)

-- ---- two chains, one after the other

-- what the first gives, or else what the second does
pub chain_none : (a b : List ℕ) → first_of a ≡ 0 → first_of (a ++ b) ≡ first_of b
chain_none [] b e = refl
chain_none (zero ∷ ns) b e = chain_none ns b e
chain_none (suc n ∷ ns) b e = absurd (omega arith)

pub chain_given : (a b : List ℕ) → (first_of a ≡ 0 → ⊥) → first_of (a ++ b) ≡ first_of a
chain_given [] b h = absurd (h refl)
chain_given (zero ∷ ns) b h = chain_given ns b h
chain_given (suc n ∷ ns) b h = refl

-- nothing is given just where nothing is given by each
pub rule_split : (n : ℕ) (ns : List ℕ) → first_of (n ∷ ns) ≡ 0 → (n ≡ 0) × (first_of ns ≡ 0)
rule_split zero ns e = (refl, e)
rule_split (suc n) ns e = absurd (omega arith)

pub chain_split : (a b : List ℕ) → first_of (a ++ b) ≡ 0 → (first_of a ≡ 0) × (first_of b ≡ 0)
chain_split [] b e = (refl, e)
chain_split (zero ∷ ns) b e = chain_split ns b e
chain_split (suc n ∷ ns) b e = absurd (omega arith)

-- ---- the first number given

first_more : {n : ℕ} (m : ℕ) {ns : List ℕ} → m ≡ 0 → GivenFirst n ns → GivenFirst n (m ∷ ns)
first_more m e g =
    record { passed = m ∷ g.passed; others = g.others; split = ap (◌∷◌ m) g.split; holding = (e, g.holding) }

pub given_first : (n : ℕ) (ns : List ℕ) → first_of ns ≡ suc n → GivenFirst n ns
given_first n [] e = absurd (omega arith)
given_first n (zero ∷ ns) e = first_more 0 refl (given_first n ns e)
given_first n (suc m ∷ ns) e = record { passed = []; others = ns; split = ap (λ (x : ℕ). x ∷ ns) e; holding = tt }

-- ---- the faults' numbers

-- a fault's number is not that of none
pub no_zero : (f : Fault) → number_of f ≡ 0 → ⊥
no_zero f e = search rules
