use lib.Bits.{mask_lt}
use native.Mathlib.Omega.{arith}
use Rattle.bits.proofs.Numbers.{paste_code}
use Rattle.bits.proofs.pasted.Goals as goal

pub overflow_shl-result : goal.overflow_shl-result
overflow_shl-result c = mask_lt c.args.after 6

pub overflow_shl-result-2 : goal.overflow_shl-result-2
overflow_shl-result-2 c = mask_lt c.args.after 6

pub returns : goal.returns
returns c =
    let a = c.args in
    rw c.mask.ensures (paste_code a.whole a.after a.w a.v (omega arith) (omega arith) (omega arith))
