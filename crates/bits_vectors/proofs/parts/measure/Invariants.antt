use Rattle.bits_vectors.proofs.Measuring.{Measuring}
use Rattle.bits_vectors.proofs.parts.measure.Given as goal

abbrev pub invariant-loop-width : goal.invariant-loop-width
invariant-loop-width l =
    Measuring l.widths l.values l.width-iterator.a.rest.now l.width-iterator.b.rest.now l.sum
