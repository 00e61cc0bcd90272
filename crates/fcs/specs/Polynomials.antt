-- Polynomials over bits: a string of bits is its coefficients, that of the highest power first.
use Rattle.std.specs.Prelude.{◌≡◌, Bool, true, false, ℕ, zero, suc, ◌-◌, length, replicate}
use Rattle.std.specs.Bool.{xor}
use mathlib.Core.List.{List, [], ◌∷◌, ◌++◌, tail}

-- n coefficients that are 0.
abbrev pub zeros : ℕ → List Bool
zeros n = replicate n false

-- The exclusive or of two strings that begin side by side; where one has ended, what is left of the other.
unfoldable pub mixed : List Bool → List Bool → List Bool
mixed [] b = b
mixed (x ∷ a) [] = x ∷ a
mixed (x ∷ a) (y ∷ b) = xor x y ∷ mixed a b

-- A polynomial times one coefficient.
unfoldable pub times : Bool → List Bool → List Bool
times true p = p
times false p = zeros (length p)

-- ---- long division

-- The leading coefficient.
unfoldable pub lead : List Bool → Bool
lead [] = false
lead (b ∷ w) = b

-- A step: the divisor times the leading coefficient is taken away from the front of the string; then
-- that coefficient is 0, and is gone.
unfoldable pub step : List Bool → List Bool → List Bool
step g w = tail (mixed w (times (lead w) g))

-- What n steps leave.
unfoldable pub remainder : List Bool → ℕ → List Bool → List Bool
remainder g zero w = w
remainder g (suc n) w = remainder g n (step g w)

-- The leading coefficients that the n steps met.
unfoldable pub quotient : List Bool → ℕ → List Bool → List Bool
quotient g zero w = []
quotient g (suc n) w = lead w ∷ quotient g n (step g w)

-- ---- what a division has to come to

-- The string a in n places at least: with 0s before it.
unfoldable pub widened : ℕ → List Bool → List Bool
widened n a = zeros (n - length a) ++ a

-- The sum: the exclusive or of the coefficients of each power.
unfoldable pub sum : List Bool → List Bool → List Bool
sum a b = mixed (widened (length b) a) (widened (length a) b)

-- The product: each coefficient of q counts g times x to the number of coefficients after it.
unfoldable pub product : List Bool → List Bool → List Bool
product [] g = []
product (b ∷ q) g = sum (times b g ++ zeros (length q)) (product q g)

-- w divided by g is q, and r is left: w = q g + r, and r is of a lower degree than g.
pub record Divided (w g q r : List Bool) : Type 0 where
  pub whole : w ≡ sum (product q g) r
  pub lower : length g ≡ suc (length r)
