-- The laws of the FCS that callers cite. Assumes nothing.
use mathlib.Core.Path.{◌≡◌, refl, ◌∙◌}
use mathlib.Core.Bool.{Bool, true, not}
use mathlib.Core.List.{List, ◌∷◌, ◌++◌}
use Prim.Native.Nat.{◌+◌}
use native.Mathlib.Omega.{arith}
use lib.ListN.{length, length-append, length-map}
use Rattle.bits.specs.Bits.{num, bits_n, test_bit}
use Rattle.bits.proofs.Numbers.{length_bits_n, bits_n_is}
use Rattle.fcs.specs.Polynomials.{zeros, quotient, product, Divided}
use Rattle.fcs.specs.Annex.{generator, started, remainder_of, fcs_of}
use Rattle.fcs.proofs.Polynomials.{length_remainder}
use Rattle.fcs.proofs.Division.{divides, only, by_power}

pub length_generator : length generator ≡ 33
unfolding generator
length_generator = length_bits_n 33 _

-- the coefficients of G(x) below that of x^32
abbrev pub lower : List Bool
lower = bits_n 32 0x04c11db7

pub generator_is : generator ≡ true ∷ lower
unfolding generator bits_n test_bit
generator_is = refl

-- the remainder is what is left of M(x) x^32 divided by G(x), and nothing else is
module _ (m : List Bool) where
  room : length (m ++ zeros 32) ≡ length m + length lower
  room = length-append m (zeros 32) ∙ omega (arith, length_bits_n 32 0x04c11db7)

  pub divided : Divided (m ++ zeros 32) generator (quotient generator (length m) (m ++ zeros 32)) (remainder_of m)
  unfolding remainder_of
  divided = rw generator_is (divides lower (m ++ zeros 32) (length m) room)

  pub only_remainder : (q r : List Bool) → Divided (m ++ zeros 32) generator q r → r ≡ remainder_of m
  unfolding remainder_of
  only_remainder q r d =
      rw generator_is (only lower (m ++ zeros 32) q r (length m) room (rw generator_is at d)).1

-- 0s after a frame with bits are M(x) times x^32
pub multiplied : (b : Bool) (m : List Bool) → product (b ∷ m) (true ∷ zeros 32) ≡ (b ∷ m) ++ zeros 32
multiplied b m = by_power b m 32

pub length_remainder_of : (m : List Bool) → length (remainder_of m) ≡ 32
unfolding remainder_of
length_remainder_of m =
    length_remainder generator (m ++ zeros 32) (length m) 32 (length-append m (zeros 32))
    (omega (arith, length_generator))

-- the FCS has 32 bits
pub length_fcs : (m : List Bool) → length (fcs_of m) ≡ 32
unfolding fcs_of
length_fcs m = length-map (remainder_of (started m)) not ∙ length_remainder_of (started m)

-- and they are those of its number
pub fcs_bits : (m : List Bool) → bits_n 32 (num (fcs_of m)) ≡ fcs_of m
fcs_bits m = bits_n_is 32 (num (fcs_of m)) (fcs_of m) (length_fcs m) refl
