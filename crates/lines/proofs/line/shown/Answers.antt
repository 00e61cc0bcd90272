use mathlib.Core.Path.{◌∙◌, ap}
use Rattle.std.proofs.lemmas.Slice.{between_to_end}
use Rattle.std.proofs.Common.{le_refl}
use Rattle.lines.specs.Lines.{rest_of}
use native.Mathlib.Omega.{arith}
use lib.ListN.{length-take}
use Rattle.lines.proofs.Outputs.{wrote_shown}
use Rattle.lines.proofs.line.shown.Goals as goal

pub returns : goal.returns
returns c =
    let a = c.args in
    let h = c.hex-end in
    let n = c.numbers in
    let l = simp length-take at h.ensures.1 in (
      wrote_shown a.out.now a.at a.n a.s.now (c.rest.ensures ∙ ap rest_of (between_to_end a.s.now a.n _ (le_refl _)))
          h.ensures.0 n.ensures.0 (omega arith) (omega arith),
      omega (arith, n.ensures.1),
    )
