use Rattle.slotlog.proofs.TurnLaws.{left_in, SoFar}
use Rattle.slotlog.proofs.run.Run.over.Given as goal

abbrev pub invariant-loop-x : goal.invariant-loop-x
invariant-loop-x l = SoFar l.initial.x.receiver l.log l.initial.out l.x l.out

abbrev pub decreases-loop-x : goal.decreases-loop-x
decreases-loop-x l = left_in l.log l.x.state l.x.read
