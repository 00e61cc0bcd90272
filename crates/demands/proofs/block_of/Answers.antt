use mathlib.Core.Path.{ap, ◌∙◌}
use Rattle.blocks.specs.Continuation.{read_continuation}
use Rattle.demands.proofs.CallLaws.{block_part}
use Rattle.demands.proofs.block_of.Goals as goal

pub returns : goal.returns
returns c =
    let a = c.args in
    c.read_continuation.ensures ∙ ap read_continuation (block_part a.i a.out.now)
