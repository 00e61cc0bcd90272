use Rattle.probe_blocks.proofs.Saying.{block_said}
use Rattle.probe_blocks.proofs.calls.block.Goals as goal

pub returns : goal.returns
returns c =
    let a = c.args in
    block_said a.line.now a.body.now c.read_continuation-b.ensures
    c.block.ensures
