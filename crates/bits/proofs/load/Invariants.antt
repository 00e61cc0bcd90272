use Rattle.bits.proofs.Bytes.{Loaded}
use Rattle.bits.proofs.load.Given as goal

abbrev pub invariant-loop-i : goal.invariant-loop-i
invariant-loop-i l = Loaded l.s l.i-iterator.iter.iter.rest.now l.i-iterator.count l.acc
