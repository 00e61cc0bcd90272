-- The laws of pairs in a list: the tests say what they mean; parts; lists with no two the same. Assumes nothing.
use mathlib.Core.Path.{◌≡◌, refl, sym, ap, ap₂, ◌∙◌, subst}
use mathlib.Core.Logic.{inl, inr}
use mathlib.Core.Bool.{Bool, true, false, cond, ◌&&◌}
use mathlib.Core.List.{List, [], ◌∷◌, ◌++◌}
use Prim.Native.Nat.{ℕ, zero, suc, ◌+◌, ◌≤◌}
use native.Mathlib.Omega.{arith}
use lib.Dec.{eqb}
use lib.ListN.{length, take}
use borrow.Author.Tests.{eq-eqb, eqb-true}
use Rattle.history.proofs.OpenRun.{and_true}
use Rattle.bookings.specs.Pairs.{Pair, In, same, among, Different, times}
use Rattle.bookings.proofs.Numbers.{either}

-- a test is not both
pub not_both : (t : Bool) → t ≡ true → t ≡ false → ⊥
not_both t p q = let z : ◌≡◌ {A = ℕ} 0 1 = cc in omega arith

pub same_true : (p q : Pair) → same p q ≡ true → p ≡ q
same_true p q e =
    let h = and_true (eqb p.source q.source) (eqb p.reference q.reference) e in
    let s = eqb-true p.source q.source h.0 in
    let r = eqb-true p.reference q.reference h.1 in
    λ i. record { source = s i; reference = r i }

pub same_is : (p q : Pair) → p ≡ q → same p q ≡ true
same_is p q e =
    let s = eq-eqb p.source q.source (λ i. (e i).source) in
    let r = eq-eqb p.reference q.reference (λ i. (e i).reference) in
    ap₂ ◌&&◌ s r

-- ---- among these

among_split : (p q : Pair) (qs : List Pair) (t : Bool) → same p q ≡ t → (among p qs ≡ true → In p qs)
    → cond t true (among p qs) ≡ true → In p (q ∷ qs)
among_split p q qs true s ih e = inl (same_true p q s)
among_split p q qs false s ih e = inr (ih e)

pub among_true : (p : Pair) (qs : List Pair) → among p qs ≡ true → In p qs
among_true p [] e = not_both false e refl
among_true p (q ∷ qs) e = among_split p q qs (same p q) refl (among_true p qs) e

pub among_is : (p : Pair) (qs : List Pair) → In p qs → among p qs ≡ true
among_is p [] h = absurd h
among_is p (q ∷ qs) (inl e) = rw (same_is p q e) refl
among_is p (q ∷ qs) (inr h) = rw (among_is p qs h) (either (same p q))

pub among_false : (p : Pair) (qs : List Pair) → among p qs ≡ false → In p qs → ⊥
among_false p qs e h = not_both (among p qs) (among_is p qs h) e

among_none : (p : Pair) (qs : List Pair) (t : Bool) → among p qs ≡ t → (In p qs → ⊥) → t ≡ false
among_none p qs true e n = absurd (n (among_true p qs e))
among_none p qs false e n = refl

pub among_not : (p : Pair) (qs : List Pair) → (In p qs → ⊥) → among p qs ≡ false
among_not p qs n = among_none p qs (among p qs) refl n

-- ---- parts

pub in_take : (p : Pair) (k : ℕ) (bs : List Pair) → In p (take k bs) → In p bs
in_take p zero bs h = absurd h
in_take p (suc k) [] h = h
in_take p (suc k) (b ∷ bs) (inl e) = inl e
in_take p (suc k) (b ∷ bs) (inr h) = inr (in_take p k bs h)

pub in_longer : (p : Pair) (j k : ℕ) (bs : List Pair) → j ≤ k → In p (take j bs) → In p (take k bs)
in_longer p zero k bs l h = absurd h
in_longer p (suc j) zero bs l h = absurd (omega arith)
in_longer p (suc j) (suc k) [] l h = h
in_longer p (suc j) (suc k) (b ∷ bs) l (inl e) = inl e
in_longer p (suc j) (suc k) (b ∷ bs) l (inr h) = inr (in_longer p j k bs (omega arith) h)

pub in_right : (p : Pair) (xs ys : List Pair) → In p ys → In p (xs ++ ys)
in_right p [] ys h = h
in_right p (x ∷ xs) ys h = inr (in_right p xs ys h)

-- ---- no two the same

pub fewer_different : (j k : ℕ) (bs : List Pair) → j ≤ k → Different (take k bs) → Different (take j bs)
fewer_different zero k bs l d = tt
fewer_different (suc j) zero bs l d = absurd (omega arith)
fewer_different (suc j) (suc k) [] l d = tt
fewer_different (suc j) (suc k) (b ∷ bs) l d =
    (λ h. d.0 (in_longer b j k bs (omega arith) h), fewer_different j k bs (omega arith) d.1)

-- each of these is among those
abbrev pub AllIn : List Pair → List Pair → Type 0
AllIn [] ps = Unit {0}
AllIn (b ∷ bs) ps = In b ps × AllIn bs ps

-- a list with one of its members taken out
taken_out : (b : Pair) (ps : List Pair) → In b ps → List Pair
taken_out b [] h = []
taken_out b (q ∷ ps) (inl e) = ps
taken_out b (q ∷ ps) (inr h) = q ∷ taken_out b ps h

length_taken_out : (b : Pair) (ps : List Pair) (h : In b ps) → length ps ≡ suc (length (taken_out b ps h))
unfolding taken_out
length_taken_out b [] h = absurd h
length_taken_out b (q ∷ ps) (inl e) = refl
length_taken_out b (q ∷ ps) (inr h) = ap suc (length_taken_out b ps h)

in_taken_out : (p b : Pair) (ps : List Pair) (h : In b ps) → (p ≡ b → ⊥) → In p ps → In p (taken_out b ps h)
unfolding taken_out
in_taken_out p b [] h n k = k
in_taken_out p b (q ∷ ps) (inl e) n (inl f) = absurd (n (f ∙ sym e))
in_taken_out p b (q ∷ ps) (inl e) n (inr k) = k
in_taken_out p b (q ∷ ps) (inr h) n (inl f) = inl f
in_taken_out p b (q ∷ ps) (inr h) n (inr k) = inr (in_taken_out p b ps h n k)

all_taken_out : (b : Pair) (bs ps : List Pair) (h : In b ps) → (In b bs → ⊥) → AllIn bs ps → AllIn bs (taken_out b ps h)
all_taken_out b [] ps h n a = tt
all_taken_out b (c ∷ bs) ps h n a =
    (in_taken_out c b ps h (λ e. n (inl (sym e))) a.0, all_taken_out b bs ps h (λ k. n (inr k)) a.1)

-- pairs with no two the same are at most as many as those that they are among
pub at_most : (bs ps : List Pair) → Different bs → AllIn bs ps → length bs ≤ length ps
at_most [] ps d a = omega arith
at_most (b ∷ bs) ps d a =
    let h = at_most bs (taken_out b ps a.0) d.1 (all_taken_out b bs ps a.0 d.0 a.1) in
    omega (arith, length_taken_out b ps a.0)

-- ---- how often

not_same : (p q : Pair) (t : Bool) → same p q ≡ t → (p ≡ q → ⊥) → t ≡ false
not_same p q true e n = absurd (n (same_true p q e))
not_same p q false e n = refl

pub times_none : (p : Pair) (bs : List Pair) → (In p bs → ⊥) → times p bs ≡ 0
times_none p [] n = refl
times_none p (b ∷ bs) n = rw (not_same p b (same p b) refl (λ e. n (inl e))) (times_none p bs (λ h. n (inr h)))

pub times_one : (p : Pair) (bs : List Pair) → Different bs → In p bs → times p bs ≡ 1
times_one p [] d h = absurd h
times_one p (b ∷ bs) d (inl e) =
    rw (same_is p b e) (ap suc (times_none p bs (λ h. d.0 (subst (λ (x : Pair). In x bs) e h))))
times_one p (b ∷ bs) d (inr h) =
    rw (not_same p b (same p b) refl (λ e. d.0 (subst (λ (x : Pair). In x bs) e h))) (times_one p bs d.1 h)

times_more : (t : Bool) (a b c : ℕ) → a ≡ b + c → cond t (suc a) a ≡ cond t (suc b) b + c
times_more true a b c e = omega arith
times_more false a b c e = e

pub times_append : (p : Pair) (xs ys : List Pair) → times p (xs ++ ys) ≡ times p xs + times p ys
times_append p [] ys = omega arith
times_append p (x ∷ xs) ys = times_more (same p x) (times p (xs ++ ys)) (times p xs) (times p ys) (times_append p xs ys)
