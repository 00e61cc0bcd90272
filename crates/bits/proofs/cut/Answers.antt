use lib.Bits.{mask_lt}
use native.Mathlib.Omega.{arith}
use Rattle.bits.proofs.Numbers.{cut_code}
use Rattle.bits.proofs.cut.Goals as goal

pub overflow_shr-result : goal.overflow_shr-result
overflow_shr-result c = mask_lt c.args.after 6

pub returns : goal.returns
returns c = let a = c.args in rw c.mask.ensures (cut_code a.whole a.after a.w (omega arith))
