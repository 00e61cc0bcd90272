-- The laws of the exclusive or of strings, and of the steps of a long division. Assumes nothing.
use mathlib.Core.Path.{◌≡◌, refl, sym, ap, ap₂, ◌∙◌}
use mathlib.Core.Bool.{Bool, true, false, xor}
use mathlib.Core.List.{List, [], ◌∷◌, ◌++◌, tail}
use Prim.Native.Nat.{ℕ, zero, suc, ◌+◌, ◌≤◌}
use native.Mathlib.Nat.{zero-add, suc-add}
use native.Mathlib.Omega.{arith}
use lib.ListN.{length, length-replicate}
use Rattle.fcs.specs.Polynomials.{zeros, mixed, times, lead, step, remainder}

pub xor_comm : (a b : Bool) → xor a b ≡ xor b a
unfolding xor
xor_comm true true = refl
xor_comm true false = refl
xor_comm false true = refl
xor_comm false false = refl

pub xor_false : (a : Bool) → xor a false ≡ a
unfolding xor
xor_false true = refl
xor_false false = refl

pub xor_assoc : (a b c : Bool) → xor (xor a b) c ≡ xor a (xor b c)
unfolding xor
xor_assoc true true true = refl
xor_assoc true true false = refl
xor_assoc true false true = refl
xor_assoc true false false = refl
xor_assoc false true true = refl
xor_assoc false true false = refl
xor_assoc false false true = refl
xor_assoc false false false = refl

pub xor_self : (a : Bool) → xor a a ≡ false
unfolding xor
xor_self true = refl
xor_self false = refl

-- ---- the exclusive or of strings

pub mixed_nil : (a : List Bool) → mixed a [] ≡ a
unfolding mixed
mixed_nil [] = refl
mixed_nil (x ∷ a) = refl

pub mixed_comm : (a b : List Bool) → mixed a b ≡ mixed b a
unfolding mixed
mixed_comm [] b = sym (mixed_nil b)
mixed_comm (x ∷ a) [] = refl
mixed_comm (x ∷ a) (y ∷ b) = ap₂ ◌∷◌ (xor_comm x y) (mixed_comm a b)

pub mixed_assoc : (a b c : List Bool) → mixed (mixed a b) c ≡ mixed a (mixed b c)
unfolding mixed
mixed_assoc [] b c = refl
mixed_assoc (x ∷ a) [] c = refl
mixed_assoc (x ∷ a) (y ∷ b) [] = refl
mixed_assoc (x ∷ a) (y ∷ b) (z ∷ c) = ap₂ ◌∷◌ (xor_assoc x y z) (mixed_assoc a b c)

-- two and two, the other way
mixed_pairs : (a b c d : List Bool) → mixed (mixed a b) (mixed c d) ≡ mixed (mixed a c) (mixed b d)
mixed_pairs a b c d =
    mixed_assoc a b (mixed c d)
    ∙ ap (mixed a) (sym (mixed_assoc b c d) ∙ ap (λ (x : List Bool). mixed x d) (mixed_comm b c) ∙ mixed_assoc c b d)
    ∙ sym (mixed_assoc a c (mixed b d))

pub length_mixed : (a b : List Bool) → length b ≤ length a → length (mixed a b) ≡ length a
unfolding mixed
length_mixed [] [] h = refl
length_mixed [] (y ∷ b) h = absurd (omega arith)
length_mixed (x ∷ a) [] h = refl
length_mixed (x ∷ a) (y ∷ b) h = ap suc (length_mixed a b (omega arith))

pub mixed_zeros : (a : List Bool) (n : ℕ) → n ≤ length a → mixed a (zeros n) ≡ a
unfolding mixed
mixed_zeros a zero h = mixed_nil a
mixed_zeros [] (suc n) h = absurd (omega arith)
mixed_zeros (x ∷ a) (suc n) h = ap₂ ◌∷◌ (xor_false x) (mixed_zeros a n (omega arith))

-- a string is taken in at the front alone
pub mixed_front : (a z b : List Bool) → length b ≤ length a → mixed (a ++ z) b ≡ mixed a b ++ z
unfolding mixed
mixed_front [] z [] h = mixed_nil z
mixed_front [] z (y ∷ b) h = absurd (omega arith)
mixed_front (x ∷ a) z [] h = refl
mixed_front (x ∷ a) z (y ∷ b) h = ap (λ (w : List Bool). xor x y ∷ w) (mixed_front a z b (omega arith))

-- and after as many 0s as a has bits it leaves a
pub mixed_after : (a x y : List Bool) → mixed (a ++ x) (zeros (length a) ++ y) ≡ a ++ mixed x y
unfolding mixed
mixed_after [] x y = refl
mixed_after (b ∷ a) x y = ap₂ ◌∷◌ (xor_false b) (mixed_after a x y)

pub length_times : (b : Bool) (g : List Bool) → length (times b g) ≡ length g
unfolding times
length_times true g = refl
length_times false g = length-replicate (length g) false

pub mixed_self : (g : List Bool) → zeros (length g) ≡ mixed g g
unfolding mixed
mixed_self [] = refl
mixed_self (b ∷ g) = ap₂ ◌∷◌ (sym (xor_self b)) (mixed_self g)

times_mixed : (a b : Bool) (g : List Bool) → times (xor a b) g ≡ mixed (times a g) (times b g)
unfolding times xor
times_mixed true true g = mixed_self g
times_mixed true false g = sym (mixed_zeros g (length g) (omega arith))
times_mixed false true g = sym (mixed_comm (zeros (length g)) g ∙ mixed_zeros g (length g) (omega arith))
times_mixed false false g =
    sym (mixed_zeros (zeros (length g)) (length g) (omega (arith, length-replicate (length g) false)))

-- ---- steps

lead_mixed : (a b : List Bool) → lead (mixed a b) ≡ xor (lead a) (lead b)
unfolding mixed lead
lead_mixed [] b = sym (xor_comm false (lead b) ∙ xor_false (lead b))
lead_mixed (x ∷ a) [] = sym (xor_false x)
lead_mixed (x ∷ a) (y ∷ b) = refl

tail_mixed : (a b : List Bool) → tail (mixed a b) ≡ mixed (tail a) (tail b)
unfolding mixed
tail_mixed [] b = refl
tail_mixed (x ∷ a) [] = sym (mixed_nil a)
tail_mixed (x ∷ a) (y ∷ b) = refl

-- the remainder of an exclusive or is that of the remainders
pub step_mixed : (g v w : List Bool) → step g (mixed v w) ≡ mixed (step g v) (step g w)
unfolding step
step_mixed g v w =
    rw (lead_mixed v w, times_mixed (lead v) (lead w) g, mixed_pairs v w (times (lead v) g) (times (lead w) g))
    (tail_mixed (mixed v (times (lead v) g)) (mixed w (times (lead w) g)))

pub remainder_mixed : (g : List Bool) (n : ℕ) (v w : List Bool)
    → remainder g n (mixed v w) ≡ mixed (remainder g n v) (remainder g n w)
unfolding remainder
remainder_mixed g zero v w = refl
remainder_mixed g (suc n) v w = ap (remainder g n) (step_mixed g v w) ∙ remainder_mixed g n (step g v) (step g w)

pub remainder_add : (g : List Bool) (i k : ℕ) (w : List Bool) → remainder g (i + k) w ≡ remainder g k (remainder g i w)
unfolding remainder
remainder_add g zero k w = rw (zero-add k) refl
remainder_add g (suc i) k w = rw (suc-add i k) (remainder_add g i k (step g w))

-- the step by a divisor that begins with 1
pub step_cons : (b : Bool) (w g : List Bool) → step (true ∷ g) (b ∷ w) ≡ mixed w (times b g)
unfolding step mixed times lead
step_cons true w g = refl
step_cons false w g = refl

-- a step looks at no more coefficients than g has
tail_front : (a z : List Bool) → 1 ≤ length a → tail (a ++ z) ≡ tail a ++ z
tail_front [] z h = absurd (omega arith)
tail_front (b ∷ a) z h = refl

lead_front : (a z : List Bool) → 1 ≤ length a → lead (a ++ z) ≡ lead a
unfolding lead
lead_front [] z h = absurd (omega arith)
lead_front (b ∷ a) z h = refl

pub step_front : (g a z : List Bool) → length g ≤ length a → 1 ≤ length a → step g (a ++ z) ≡ step g a ++ z
unfolding step
step_front g a z h k =
    let l = length_times (lead a) g in
    rw (lead_front a z k, mixed_front a z (times (lead a) g) (omega arith))
    (tail_front (mixed a (times (lead a) g)) z (omega (arith, length_mixed a (times (lead a) g) (omega arith))))

length_tail : (a : List Bool) (n : ℕ) → length a ≡ suc n → length (tail a) ≡ n
length_tail [] n e = absurd (omega arith)
length_tail (b ∷ a) n e = omega arith

pub length_step : (g w : List Bool) (n : ℕ) → length w ≡ suc n → length g ≤ suc n → length (step g w) ≡ n
unfolding step
length_step g w n e h =
    let l = length_times (lead w) g in
    length_tail (mixed w (times (lead w) g)) n (length_mixed w (times (lead w) g) (omega arith) ∙ e)

pub remainder_front : (g a z : List Bool) (n k : ℕ) → length a ≡ n + k → length g ≤ suc k
    → remainder g n (a ++ z) ≡ remainder g n a ++ z
unfolding remainder
remainder_front g a z zero k e h = refl
remainder_front g a z (suc n) k e h =
    ap (remainder g n) (step_front g a z (omega arith) (omega arith))
    ∙ remainder_front g (step g a) z n k (length_step g a (n + k) (omega arith) (omega arith)) h

-- the remainder has one coefficient less than g
pub length_remainder : (g w : List Bool) (n k : ℕ) → length w ≡ n + k → length g ≤ suc k → length (remainder g n w) ≡ k
unfolding remainder
length_remainder g w zero k e h = omega arith
length_remainder g w (suc n) k e h =
    length_remainder g (step g w) n k (length_step g w (n + k) (omega arith) (omega arith)) h
