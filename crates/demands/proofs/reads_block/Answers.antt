use Rattle.demands.proofs.CallLaws.{reads_block}
use Rattle.demands.proofs.reads_block.Goals as goal

pub returns : goal.returns
returns c = reads_block c.args.s.now c.read_continuation.ensures
