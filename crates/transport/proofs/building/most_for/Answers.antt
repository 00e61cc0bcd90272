use Rattle.bits.proofs.Tests.{tests}
use Rattle.transport.proofs.building.most_for.Goals as goal

pub returns-then-ack-eq1 : goal.returns-then-ack-eq1
returns-then-ack-eq1 c = search tests

pub returns : goal.returns
returns c = search tests
