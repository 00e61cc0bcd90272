use mathlib.Core.Path.{sym}
use native.Mathlib.Omega.{arith}
use Rattle.fcs.proofs.Numbers.{num_ones, num_full}
use Rattle.fcs.proofs.start.Goals as goal

pub returns-then-n-lt32 : goal.returns-then-n-lt32
returns-then-n-lt32 c = sym (num_ones 32 c.args.n)

pub returns : goal.returns
returns c = sym (num_full 32 c.args.n (omega arith))
