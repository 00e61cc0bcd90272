-- The register of the division, which the contracts of the functions below `fcs_of` cite; that of `fcs_of` does not.
use Rattle.std.specs.Prelude.{◌≡◌, Bool, true, List, [], ◌∷◌, ◌++◌, ℕ, zero, suc, ◌<◌, length, get_or}
use Rattle.bits.specs.Bits.{num, bits_n}
use Rattle.fcs.specs.Polynomials.{zeros, mixed, remainder}
use Rattle.fcs.specs.Annex.{generator, remainder_of}

-- w bits, the first n of them 1: what the register of a frame of n bits begins with. It complements the frame's first
-- bits.
unfoldable pub ones : ℕ → ℕ → List Bool
ones zero n = []
ones (suc w) zero = zeros (suc w)
ones (suc w) (suc n) = true ∷ ones w n

-- The register c after the bits b came in: the steps of the division for b, with c over the front of what follows.
unfoldable pub fed : List Bool → List Bool → List Bool
fed c b = remainder generator (length b) (mixed c (b ++ zeros 32))

-- The register c after k bits went out, and k 0s came in.
unfoldable pub turns : ℕ → List Bool → List Bool
turns k c = remainder generator k (c ++ zeros k)

-- The table has the remainder of each string of four bits.
pub record Fours (table : List ℕ) : Type 0 where
  pub entry : (i : ℕ) → i < 16 → get_or table i 0 ≡ num (remainder_of (bits_n 4 i))
