use mathlib.Core.Path.{ap}
use Prim.Native.Nat.{ℕ, ◌-◌}
use lib.Pow.{pow_pos}
use native.Mathlib.Omega.{arith}
use Rattle.bits.proofs.Numbers.{ones_of}
use Rattle.bits.proofs.mask.Goals as goal

pub overflow_sub-result : goal.overflow_sub-result
overflow_sub-result c = rw (ones_of c.args.w (omega arith)) (pow_pos c.args.w)

pub returns : goal.returns
returns c = ap (λ (x : ℕ). x - 1) (ones_of c.args.w (omega arith))
