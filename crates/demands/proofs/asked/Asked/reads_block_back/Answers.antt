use Rattle.demands.proofs.CallLaws.{reads_block_back}
use Rattle.demands.proofs.asked.Asked.reads_block_back.Goals as goal

pub returns : goal.returns
returns c =
    reads_block_back _ _ c.built.ensures.output c.block_of.ensures c.requires.buildable c.requires.of_the_message
