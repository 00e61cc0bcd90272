use Rattle.demands.proofs.CallLaws.{builds}
use Rattle.demands.proofs.asked.Asked.builds.Goals as goal

pub returns : goal.returns
returns c = builds _ c.built.ensures.answer c.built.ensures.output
