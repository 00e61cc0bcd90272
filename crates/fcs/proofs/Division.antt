-- The long division is division: w = q g + r, and no other q and r are so. Assumes nothing.
use mathlib.Core.Path.{◌≡◌, refl, sym, ap, ap₂, ◌∙◌}
use mathlib.Core.Bool.{Bool, true, false}
use mathlib.Core.List.{List, [], ◌∷◌, ◌++◌, append_assoc, append-nil}
use Prim.Native.Nat.{ℕ, zero, suc, ◌+◌, ◌-◌, ◌≤◌}
use native.Mathlib.Omega.{arith}
use lib.ListN.{length, length-append, length-replicate, replicate-append-replicate}
use Rattle.fcs.specs.Polynomials.{zeros, mixed, times, lead, step, remainder, quotient}
use Rattle.fcs.specs.Polynomials.{widened, sum, product, Divided}
use Rattle.fcs.proofs.Polynomials.{xor_comm, xor_false, mixed_nil, mixed_comm, mixed_assoc, mixed_self}
use Rattle.fcs.proofs.Polynomials.{mixed_zeros, mixed_after, length_mixed, length_times}
use Rattle.fcs.proofs.Polynomials.{step_cons, length_step, length_remainder}

-- ---- strings with 0s before them

widened_none : (n : ℕ) (a : List Bool) → n ≤ length a → widened n a ≡ a
unfolding widened
widened_none n a h = let z : n - length a ≡ 0 = omega arith in rw z refl

widened_one : (n : ℕ) (a : List Bool) → n ≡ suc (length a) → widened n a ≡ false ∷ a
unfolding widened
widened_one n a e = let z : n - length a ≡ 1 = omega arith in rw z refl

length_widened : (n : ℕ) (a : List Bool) → length (widened n a) ≡ n - length a + length a
unfolding widened
length_widened n a = length-append (zeros (n - length a)) a ∙ omega (arith, length-replicate (n - length a) false)

-- first in m places, then in n
widened_more : (m n : ℕ) (a : List Bool) → m ≤ n → length a ≤ n
    → zeros (n - (m - length a + length a)) ++ widened m a ≡ widened n a
unfolding widened
widened_more m n a h l =
    let j = n - (m - length a + length a) in
    let k = m - length a in
    let e : j + k ≡ n - length a = omega arith in
    sym (append_assoc (zeros j) (zeros k) a)
    ∙ ap (λ (x : List Bool). x ++ a) (replicate-append-replicate j k false ∙ ap zeros e)

before_mixed : (n : ℕ) (a b : List Bool) → zeros n ++ mixed a b ≡ mixed (zeros n ++ a) (zeros n ++ b)
before_mixed n a b =
    sym (mixed_after (zeros n) a b) ∙ ap (λ (k : ℕ). mixed (zeros n ++ a) (zeros k ++ b)) (length-replicate n false)

-- ---- sums

length_sum : (a b : List Bool) → length (sum a b) ≡ length b - length a + length a
unfolding sum
length_sum a b =
    let x = length_widened (length b) a in
    let y = length_widened (length a) b in
    length_mixed (widened (length b) a) (widened (length a) b) (omega arith) ∙ x

sum_none : (a : List Bool) → sum [] a ≡ a
unfolding sum widened
sum_none a =
    let e : length a - 0 ≡ length a = omega arith in
    ap₂ mixed (ap (λ (n : ℕ). zeros n ++ []) e ∙ append-nil (zeros (length a))) (widened_none 0 a (omega arith))
    ∙ mixed_comm (zeros (length a)) a
    ∙ mixed_zeros a (length a) (omega arith)

-- the second is the shorter
sum_long : (a b : List Bool) → length b ≤ length a → sum a b ≡ mixed a (widened (length a) b)
unfolding sum
sum_long a b h = ap (λ (x : List Bool). mixed x (widened (length a) b)) (widened_none (length b) a h)

widened_sum : (n : ℕ) (a b : List Bool) → length a ≤ n → length b ≤ n
    → widened n (sum a b) ≡ mixed (widened n a) (widened n b)
unfolding sum widened
widened_sum n a b h k =
    let la = length a in
    let lb = length b in
    let other : lb - la + la ≡ la - lb + lb = omega arith in
    ap (λ (j : ℕ). zeros (n - j) ++ sum a b) (length_sum a b)
    ∙ before_mixed (n - (lb - la + la)) (widened lb a) (widened la b)
    ∙ ap₂ mixed
    (widened_more lb n a k h)
    (ap (λ (j : ℕ). zeros (n - j) ++ widened la b) other ∙ widened_more la n b h k)

sum_assoc : (a b c : List Bool) → length b ≤ length a → length c ≤ length a → sum (sum a b) c ≡ sum a (sum b c)
sum_assoc a b c h k =
    let n = length a in
    let ls : length (sum a b) ≡ n = length_sum a b ∙ omega arith in
    let lt : length (sum b c) ≤ n = omega (arith, length_sum b c) in
    sum_long (sum a b) c (omega arith)
    ∙ ap₂ (λ (x : List Bool) (j : ℕ). mixed x (widened j c)) (sum_long a b h) ls
    ∙ mixed_assoc a (widened n b) (widened n c)
    ∙ ap (mixed a) (sym (widened_sum n b c h k))
    ∙ sym (sum_long a (sum b c) lt)

-- ---- products

length_part : (b : Bool) (q g : List Bool) → length (times b g ++ zeros (length q)) ≡ length q + length g
length_part b q g =
    length-append (times b g) (zeros (length q)) ∙ omega (arith, length_times b g, length-replicate (length q) false)

product_le : (q g : List Bool) → length (product q g) ≤ length q + length g
unfolding product
product_le [] g = omega arith
product_le (b ∷ q) g =
    let p = length_part b q g in
    omega (arith, length_sum (times b g ++ zeros (length q)) (product q g), product_le q g)

length_product : (b : Bool) (q g : List Bool) → length (product (b ∷ q) g) ≡ length q + length g
unfolding product
length_product b q g =
    let p = length_part b q g in
    length_sum (times b g ++ zeros (length q)) (product q g) ∙ omega (arith, product_le q g)

mixed_pad : (v t : List Bool) (n : ℕ) → length t + n ≤ length v → mixed (t ++ zeros n) v ≡ mixed v t
unfolding mixed
mixed_pad v [] n h = mixed_comm (zeros n) v ∙ mixed_zeros v n (omega arith) ∙ sym (mixed_nil v)
mixed_pad [] (x ∷ t) n h = absurd (omega arith)
mixed_pad (y ∷ v) (x ∷ t) n h = ap₂ ◌∷◌ (xor_comm x y) (mixed_pad v t n (omega arith))

mixed_undo : (v t : List Bool) → length t ≤ length v → mixed (mixed v t) t ≡ v
mixed_undo v t h = mixed_assoc v t t ∙ ap (mixed v) (sym (mixed_self t)) ∙ mixed_zeros v (length t) h

-- a divisor whose leading coefficient is 1
module _ (g : List Bool) where
  abbrev divisor : List Bool
  divisor = true ∷ g

  times_cons : (b : Bool) → times b divisor ≡ b ∷ times b g
  unfolding times
  times_cons true = refl
  times_cons false = refl

  -- what q divisors and r come to
  abbrev back : List Bool → List Bool → List Bool
  back q r = sum (product q divisor) r

  length_back : (q r : List Bool) → length r ≡ length g → length (back q r) ≡ length q + length g
  unfolding product
  length_back [] r e = ap length (sum_none r) ∙ omega arith
  length_back (b ∷ q) r e = length_sum (product (b ∷ q) divisor) r ∙ omega (arith, length_product b q divisor)

  -- one coefficient more in front
  back_cons : (b : Bool) (q r : List Bool) → length r ≡ length g → back (b ∷ q) r ≡ b ∷ mixed (back q r) (times b g)
  unfolding product mixed
  back_cons b q r e =
      let n = length q in
      let a = times b divisor ++ zeros n in
      let v = back q r in
      let la : length a ≡ n + suc (length g) = length_part b q divisor in
      let lv = length_back q r e in
      sum_assoc a (product q divisor) r (omega (arith, product_le q divisor)) (omega arith)
      ∙ sum_long a v (omega arith)
      ∙ ap₂ (λ (x y : List Bool). mixed (x ++ zeros n) y) (times_cons b) (widened_one (length a) v (omega arith))
      ∙ ap₂ ◌∷◌ (xor_false b) (mixed_pad v (times b g) n (omega (arith, length_times b g)))

  -- a coefficient of the quotient is what the step meets, and the step takes it away
  step_back : (b : Bool) (q r : List Bool) → length r ≡ length g
      → step divisor (b ∷ mixed (back q r) (times b g)) ≡ back q r
  step_back b q r e =
      step_cons b (mixed (back q r) (times b g)) g
      ∙ mixed_undo (back q r) (times b g) (omega (arith, length_times b g, length_back q r e))

  -- w is the quotient times the divisor, and the remainder
  pub whole_of : (n : ℕ) (w : List Bool) → length w ≡ n + length g
      → w ≡ back (quotient divisor n w) (remainder divisor n w)
  unfolding quotient remainder product lead
  whole_of zero w e = sym (sum_none w)
  whole_of (suc n) [] e = absurd (omega arith)
  whole_of (suc n) (b ∷ w) e =
      let t = times b g in
      let l = length_times b g in
      let s = step divisor (b ∷ w) in
      let ls : length s ≡ n + length g = length_step divisor (b ∷ w) (n + length g) (omega arith) (omega arith) in
      let r : length (remainder divisor n s) ≡ length g = length_remainder divisor s n (length g) ls (omega arith) in
      sym (
      back_cons b (quotient divisor n s) (remainder divisor n s) r
      ∙ ap (λ (x : List Bool). b ∷ mixed x t) (sym (whole_of n s ls) ∙ step_cons b w g)
      ∙ ap (λ (x : List Bool). b ∷ x) (mixed_undo w t (omega arith))
      )

  -- and these two are the only ones
  only_of : (q r w : List Bool) → length r ≡ length g → w ≡ back q r
      → (q ≡ quotient divisor (length q) w) × (r ≡ remainder divisor (length q) w)
  unfolding quotient remainder product lead
  only_of [] r w e h = (refl, sym (h ∙ sum_none r))
  only_of (b ∷ q) r w e h =
      let c : w ≡ b ∷ mixed (back q r) (times b g) = h ∙ back_cons b q r e in
      let s : step divisor w ≡ back q r = ap (step divisor) c ∙ step_back b q r e in
      let k = only_of q r (step divisor w) e s in
      (ap₂ ◌∷◌ (sym (ap lead c)) k.0, k.1)

-- ---- the division

-- a string that is n places longer than the remainder is divided in n steps
pub divides : (g w : List Bool) (n : ℕ) → length w ≡ n + length g
    → Divided w (true ∷ g) (quotient (true ∷ g) n w) (remainder (true ∷ g) n w)
divides g w n e =
    record {
      whole = whole_of g n w e;
      lower = ap suc (sym (length_remainder (true ∷ g) w n (length g) e (omega arith)));
    }

pub only : (g w q r : List Bool) (n : ℕ) → length w ≡ n + length g → Divided w (true ∷ g) q r
    → (q ≡ quotient (true ∷ g) n w) × (r ≡ remainder (true ∷ g) n w)
only g w q r n e d =
    let l : length r ≡ length g = omega arith in
    let m : length q ≡ n = omega (arith, ap length d.whole, length_back g q r l) in
    rw m at (only_of g q r w l d.whole)

-- ---- a power of x

times_zeros : (b : Bool) (k : ℕ) → times b (zeros k) ≡ zeros k
unfolding times
times_zeros true k = refl
times_zeros false k = ap zeros (length-replicate k false)

back_power : (q : List Bool) (k : ℕ) → back (zeros k) q (zeros k) ≡ q ++ zeros k
unfolding product
back_power [] k = sum_none (zeros k)
back_power (b ∷ q) k =
    let l = length-append q (zeros k) in
    let n = length-replicate k false in
    back_cons (zeros k) b q (zeros k) refl
    ∙ ap₂ (λ (x y : List Bool). b ∷ mixed x y) (back_power q k) (times_zeros b k)
    ∙ ap (λ (x : List Bool). b ∷ x) (mixed_zeros (q ++ zeros k) k (omega arith))

-- the product with x^k has k 0s more at the end
pub by_power : (b : Bool) (q : List Bool) (k : ℕ) → product (b ∷ q) (true ∷ zeros k) ≡ (b ∷ q) ++ zeros k
unfolding widened
by_power b q k =
    let p = product (b ∷ q) (true ∷ zeros k) in
    let n = length-replicate k false in
    let l = length_product b q (true ∷ zeros k) in
    let j = length p - length (zeros k) in
    let e : j + k ≡ length p = omega arith in
    let z : widened (length p) (zeros k) ≡ zeros (length p) = replicate-append-replicate j k false ∙ ap zeros e in
    sym (sum_long p (zeros k) (omega arith) ∙ ap (mixed p) z ∙ mixed_zeros p (length p) (omega arith))
    ∙ back_power (b ∷ q) k
