use native.Mathlib.Omega.{arith}
use lib.Bits.{and_mask}
use Rattle.bits.proofs.ending.Goals as goal

pub overflow_add-last : goal.overflow_add-last
overflow_add-last c = omega (arith, and_mask c.args.last 3)

pub returns : goal.returns
returns c = omega (arith, and_mask c.args.last 3)
