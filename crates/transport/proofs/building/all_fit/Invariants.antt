use lib.ListN.{length}
use Rattle.transport.proofs.BuildLaws.{LeftFit}
use Rattle.transport.proofs.building.all_fit.Given as goal

abbrev pub invariant-loop-w : goal.invariant-loop-w
invariant-loop-w l = LeftFit l.widths l.values (length l.yielded)
