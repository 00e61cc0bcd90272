use native.Mathlib.Omega.{arith}
use Rattle.transport.proofs.ElementLaws.{cut_lt}
use Rattle.transport.proofs.elements.storage_in.Goals as goal

pub returns : goal.returns
returns c = let l = cut_lt 16 1 c.args.x in (c.part.ensures, rw c.part.ensures (omega arith))
