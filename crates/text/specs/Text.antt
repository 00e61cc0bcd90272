-- Text in ASCII, written at a place of lent bytes.
use Rattle.std.specs.Prelude.{◌≡◌, cond, List, [], ◌∷◌, ◌++◌, ℕ, zero, suc, ◌+◌, ◌/◌, ◌%◌, ltb, length, take, drop}

-- The bytes `old` with those from place `at` on replaced by those of `run`.
unfoldable pub written : ℕ → List ℕ → List ℕ → List ℕ
written at run old = take at old ++ (run ++ drop (at + length run) old)

-- `new` is `old` with this run written at place `at`, all else unchanged, and `next` is the place after it.
pub record Wrote (old : List ℕ) (at : ℕ) (run : List ℕ) (new : List ℕ) (next : ℕ) : Type 0 where
  pub bytes : new ≡ written at run old
  pub after : next ≡ at + length run

-- The decimal digits of n, the most significant first, as long as at most k are wanted: below 10 the digit itself,
-- and from 10 on those of n / 10 and then the last one.
unfoldable pub digits : ℕ → ℕ → List ℕ
digits zero n = []
digits (suc k) n = cond (ltb n 10) ((48 + n) ∷ []) (digits k (n / 10) ++ ((48 + n % 10) ∷ []))

-- All of them.
unfoldable pub decimal_of : ℕ → List ℕ
decimal_of n = digits (suc n) n

-- Numbers in decimal, a space before each.
unfoldable pub spaced : List ℕ → List ℕ
spaced [] = []
spaced (n ∷ ns) = 32 ∷ (decimal_of n ++ spaced ns)

-- The hexadecimal digit of d, below 16: 0 to 9, then a to f.
unfoldable pub hex_digit : ℕ → ℕ
hex_digit d = cond (ltb d 10) (48 + d) (87 + d)

-- Two hexadecimal digits for each byte.
unfoldable pub hex_of : List ℕ → List ℕ
hex_of [] = []
hex_of (x ∷ xs) = hex_digit (x / 16) ∷ hex_digit (x % 16) ∷ hex_of xs
