-- The FCS, by the five steps of Annex B (EN 300 396-3).
use Rattle.std.specs.Prelude.{Bool, not, List, ◌++◌, map, ◌+◌, ◌^◌, length, take, drop}
use Rattle.bits.specs.Bits.{bits_n}
use Rattle.fcs.specs.Polynomials.{zeros, remainder}

-- G(x) = 1 + X + X^2 + X^4 + X^5 + X^7 + X^8 + X^10 + X^11 + X^12 + X^16 + X^22 + X^23 + X^26 + X^32.
-- Its 33 coefficients are the bits of G(2).
unfoldable pub generator : List Bool
generator =
    bits_n 33
    (1 + 2 + 2 ^ 2 + 2 ^ 4 + 2 ^ 5 + 2 ^ 7 + 2 ^ 8 + 2 ^ 10 + 2 ^ 11 + 2 ^ 12 + 2 ^ 16 + 2 ^ 22 + 2 ^ 23 + 2 ^ 26
    + 2 ^ 32)

-- 1) The first 4 octets (first 32 bits) of the frame are complemented. If there are less than 32 bits,
-- then those bits will be complemented.
unfoldable pub started : List Bool → List Bool
started m = map not (take 32 m) ++ drop 32 m

-- 2) The n bits of the frame are then considered to be the coefficients of a polynomial M(x) of degree
-- n - 1: that of x^(n-1) is the first bit.
abbrev pub polynomial : List Bool → List Bool
polynomial m = m

-- 3) M(x) is multiplied by x^32 and divided by G(x), producing a remainder R(x) of degree less than 32:
-- a step of the division for each coefficient of M(x).
unfoldable pub remainder_of : List Bool → List Bool
remainder_of m = remainder generator (length m) (m ++ zeros 32)

-- 4) The coefficients of R(x) are considered to be a 32-bit sequence: that of x^31 is its first bit (9.7.10).
abbrev pub sequence : List Bool → List Bool
sequence r = r

-- 5) The 32-bit sequence is complemented and the result is the FCS.
unfoldable pub fcs_of : List Bool → List Bool
fcs_of m = map not (sequence (remainder_of (polynomial (started m))))
