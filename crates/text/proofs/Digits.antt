-- The laws of decimal digits. Assumes nothing.
use mathlib.Core.Path.{◌≡◌, refl}
use mathlib.Core.Bool.{Bool, true, false, cond}
use mathlib.Core.List.{List, [], ◌∷◌, ◌++◌}
use Prim.Native.Nat.{ℕ, zero, suc, ◌+◌, ◌-◌, ◌*◌, ◌/◌, ◌%◌, ◌^◌, ◌≤◌, ◌<◌}
use native.Mathlib.Omega.{arith}
use lib.Dec.{ltb}
use lib.ListN.{length, set, length-append}
use borrow.Author.Tests.{lt-ltb, le-ltb, ltb-true, ltb-false}
use Rattle.text.specs.Text.{digits, decimal_of, Wrote}
use Rattle.text.proofs.Writing.{wrote_none, wrote_more}

-- the digits do not hang on how many are allowed, once that is enough
same_when : (t : Bool) (k j n : ℕ) → ltb n 10 ≡ t → n ≤ k → n ≤ j
    → (n / 10 < k → n / 10 < j → digits k (n / 10) ≡ digits j (n / 10))
    → cond t ((48 + n) ∷ []) (digits k (n / 10) ++ ((48 + n % 10) ∷ []))
    ≡ cond t ((48 + n) ∷ []) (digits j (n / 10) ++ ((48 + n % 10) ∷ []))
same_when true k j n e a b f = refl
same_when false k j n e a b f = let g = ltb-false n 10 e in rw (f (omega arith) (omega arith)) refl

digits_same : (k j n : ℕ) → n < k → n < j → digits k n ≡ digits j n
unfolding digits
digits_same zero j n h g = absurd (omega arith)
digits_same (suc k) zero n h g = absurd (omega arith)
digits_same (suc k) (suc j) n h g =
    same_when (ltb n 10) k j n refl (omega arith) (omega arith) (λ a b. digits_same k j (n / 10) a b)

pub decimal_small : (n : ℕ) → n < 10 → decimal_of n ≡ (48 + n) ∷ []
unfolding decimal_of digits
decimal_small n h = rw (lt-ltb n 10 h) refl

decimal_large : (n : ℕ) → 10 ≤ n → decimal_of n ≡ decimal_of (n / 10) ++ ((48 + n % 10) ∷ [])
unfolding decimal_of digits
decimal_large n h = rw (le-ltb n 10 h, digits_same n (suc (n / 10)) (n / 10) (omega arith) (omega arith)) refl

pub decimal_length : (n : ℕ) → 10 ≤ n → length (decimal_of n) ≡ length (decimal_of (n / 10)) + 1
decimal_length n h = rw (decimal_large n h, length-append (decimal_of (n / 10)) ((48 + n % 10) ∷ [])) refl

few_when : (t : Bool) (k n : ℕ) → ltb n 10 ≡ t → n < 10 * 10 ^ suc k
    → (n / 10 < 10 ^ suc k → length (decimal_of (n / 10)) ≤ suc k) → length (decimal_of n) ≤ suc (suc k)
few_when true k n e h f = rw (decimal_small n (ltb-true n 10 e)) (omega arith)
few_when false k n e h f = rw (decimal_length n (ltb-false n 10 e)) (let l = f (omega arith) in omega arith)

-- a number below 10 ^ k has at most k digits
pub decimal_few : (k n : ℕ) → n < 10 ^ suc k → length (decimal_of n) ≤ suc k
decimal_few zero n h = rw (decimal_small n (omega arith)) (omega arith)
decimal_few (suc k) n h = few_when (ltb n 10) k n refl (omega arith) (λ l. decimal_few k (n / 10) l)

-- ---- digits that were written

pub wrote_small : (old : List ℕ) (at n : ℕ) → n < 10 → at + length (decimal_of n) ≤ length old
    → Wrote old at (decimal_of n) (set old at (48 + n)) (at + 1)
wrote_small old at n h l =
    let e = decimal_small n h in
    rw e (wrote_more old at [] (48 + n) (wrote_none old at) (let k = rw e at l in omega arith))

pub wrote_large : (old : List ℕ) (at n : ℕ) {new : List ℕ} {next : ℕ} → 10 ≤ n → at + length (decimal_of n) ≤ length old
    → Wrote old at (decimal_of (n / 10)) new next → Wrote old at (decimal_of n) (set new next (48 + n % 10)) (next + 1)
wrote_large old at n h l w =
    rw (decimal_large n h)
    (wrote_more old at (decimal_of (n / 10)) (48 + n % 10) w (omega (arith, w.after, decimal_length n h)))

-- ---- a number is read back from its digits

-- the number of digits, after a number v of those before them
unfoldable pub value_of : ℕ → List ℕ → ℕ
value_of v [] = v
value_of v (d ∷ ds) = value_of (10 * v + (d - 48)) ds

value_last : (v : ℕ) (ds : List ℕ) (d : ℕ) → value_of v (ds ++ (d ∷ [])) ≡ 10 * value_of v ds + (d - 48)
unfolding value_of
value_last v [] d = refl
value_last v (x ∷ ds) d = value_last (10 * v + (x - 48)) ds d

value_when : (t : Bool) (k n : ℕ) → ltb n 10 ≡ t → n ≤ k → (n / 10 < k → value_of 0 (digits k (n / 10)) ≡ n / 10)
    → value_of 0 (cond t ((48 + n) ∷ []) (digits k (n / 10) ++ ((48 + n % 10) ∷ []))) ≡ n
unfolding value_of
value_when true k n e h f = omega arith
value_when false k n e h f =
    let g = ltb-false n 10 e in
    rw (value_last 0 (digits k (n / 10)) (48 + n % 10), f (omega arith)) (omega arith)

value_digits : (k n : ℕ) → n < k → value_of 0 (digits k n) ≡ n
unfolding digits
value_digits zero n h = absurd (omega arith)
value_digits (suc k) n h = value_when (ltb n 10) k n refl (omega arith) (λ l. value_digits k (n / 10) l)

pub value_decimal : (n : ℕ) → value_of 0 (decimal_of n) ≡ n
unfolding decimal_of
value_decimal n = value_digits (suc n) n (omega arith)
