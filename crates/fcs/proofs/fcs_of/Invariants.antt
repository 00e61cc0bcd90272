use mathlib.Core.Path.{◌≡◌}
use Prim.Native.Nat.{◌*◌}
use lib.ListN.{take}
use Rattle.bits.specs.Bits.{num, bits_of}
use Rattle.fcs.specs.Register.{ones, fed}
use Rattle.fcs.proofs.fcs_of.Given as goal

abbrev pub invariant-loop-x : goal.invariant-loop-x
invariant-loop-x l = l.c ≡ num (fed (ones 32 l.n) (take (8 * l.x-index) (bits_of l.s)))
