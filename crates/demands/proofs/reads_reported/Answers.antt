use Rattle.demands.proofs.CallLaws.{reads_reported}
use Rattle.demands.proofs.reads_reported.Goals as goal

pub returns : goal.returns
returns c =
    let a = c.args in
    reads_reported a.frame a.slot a.s.now a.h.now c.read_reported.ensures
