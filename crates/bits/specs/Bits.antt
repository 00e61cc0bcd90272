-- Bit strings over bytes, the first bit highest.
use Rattle.std.specs.Prelude.{◌≡◌, Bool, true, false, List, [], ◌∷◌, ◌++◌, eqb, length, take, drop}
use Rattle.std.specs.Prelude.{ℕ, zero, suc, ◌+◌, ◌*◌, ◌/◌, ◌%◌, ◌^◌, ◌≤◌, ◌<◌}

-- A bit as a number.
unfoldable pub bit : Bool → ℕ
bit true = 1
bit false = 0

-- The number of a bit string, a sum of powers of two: each 1 counts 2 to the number of bits after it.
unfoldable pub num : List Bool → ℕ
num [] = 0
num (b ∷ bs) = bit b * 2 ^ length bs + num bs

-- The bit of v that counts 2 ^ k.
unfoldable pub test_bit : ℕ → ℕ → Bool
test_bit v k = eqb (v / 2 ^ k % 2) 1

-- The w bits of v.
unfoldable pub bits_n : ℕ → ℕ → List Bool
bits_n zero v = []
bits_n (suc w) v = test_bit v w ∷ bits_n w v

-- The bits of a list of bytes, eight to a byte.
unfoldable pub bits_of : List ℕ → List Bool
bits_of [] = []
bits_of (x ∷ xs) = bits_n 8 x ++ bits_of xs

-- The first n bytes of a bit string; a byte that the string does not fill is the number of the bits that it has.
unfoldable pub bytes_n : ℕ → List Bool → List ℕ
bytes_n zero b = []
bytes_n (suc n) b = num (take 8 b) ∷ bytes_n n (drop 8 b)

-- The string l with the bits from bit `at` on replaced by those of n.
unfoldable pub over : ℕ → List Bool → List Bool → List Bool
over at n l = take at l ++ (n ++ drop (at + length n) l)

-- The number of the w bits from bit `at` on.
abbrev pub field : ℕ → ℕ → List Bool → ℕ
field at w b = num (take w (drop at b))

-- r is the number of those bits.
pub record Got (b : List Bool) (at w r : ℕ) : Type 0 where
  pub is : r ≡ field at w b
  pub small : r < 2 ^ w

-- What the functions ask of a place: the bits from bit `from` up to bit `to` are among those of `len` bytes, and no
-- place is so far out that a sum of places could wrap.
pub record Inside (len from to : ℕ) : Type 0 where
  pub ordered : from ≤ to
  pub within : to ≤ 8 * len
  pub near : to ≤ 2 ^ 32

-- Every number of the list is a byte.
abbrev pub AllBytes : List ℕ → Type 0
AllBytes [] = Unit {0}
AllBytes (x ∷ xs) = (x < 256) × AllBytes xs
