use Rattle.demands.proofs.CallLaws.{reads_reported_back}
use Rattle.demands.proofs.asked.Asked.reads_reported_back.Goals as goal

pub returns : goal.returns
returns c =
    reads_reported_back _ _ _ c.built.ensures.output c.reported_of.ensures c.requires.buildable c.requires.own_frame
    c.requires.own_slot
