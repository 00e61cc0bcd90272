use Rattle.demands.proofs.CallLaws.{lays_out}
use Rattle.demands.proofs.lays_out.Goals as goal

pub returns : goal.returns
returns c = let a = c.args in lays_out a.x a.f a.i c.due_frame.ensures
