use native.Mathlib.Omega.{arith}
use Rattle.bits.proofs.Tests.{tests}
use Rattle.transport.specs.Runs.{front_of}
use Rattle.transport.proofs.elements.front_of.Goals as goal

pub returns-then-ack-eq1 : goal.returns-then-ack-eq1
unfolding front_of
returns-then-ack-eq1 c = (search (tests, ← c.part.ensures), omega arith)

pub returns-then-part-eq0 : goal.returns-then-part-eq0
unfolding front_of
returns-then-part-eq0 c = (search (tests, ← c.part-2.ensures), omega arith)

pub returns : goal.returns
unfolding front_of
returns c = (
  search (
    tests,
    ← c.part-2.ensures,
    ← c.part-3.ensures,
    ← c.part-4.ensures,
    ← c.part-5.ensures,
  ),
  omega arith,
)
