use Rattle.demands.proofs.CallLaws.{reads}
use Rattle.demands.proofs.reads.Goals as goal

pub returns : goal.returns
returns c = let a = c.args in reads a.s.now a.h.now c.read_header.ensures
