use Rattle.demands.proofs.CallLaws.{reads_back}
use Rattle.demands.proofs.asked.Asked.reads_back.Goals as goal

pub returns : goal.returns
returns c =
    reads_back _ c.built.ensures.output c.header_of.ensures c.requires
