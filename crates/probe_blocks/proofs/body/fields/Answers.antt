use mathlib.Core.Path.{refl}
use Rattle.probe_blocks.specs.Body.{fields_in}
use Rattle.probe_blocks.proofs.body.fields.Goals as goal

pub returns : goal.returns
unfolding fields_in
returns c =
    rw (
      c.four.ensures,
      c.four-2.ensures,
      c.four-3.ensures,
      c.eight.ensures,
    ) refl
