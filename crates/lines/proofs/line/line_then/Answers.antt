use mathlib.Core.Path.{◌∙◌}
use native.Mathlib.Omega.{arith}
use Rattle.text.proofs.Writing.{wrote_both}
use Rattle.lines.specs.Lines.{line_then, start_with}
use Rattle.lines.proofs.Printing.{ended}
use Rattle.lines.proofs.line.line_then.Goals as goal

pub returns : goal.returns
unfolding line_then start_with
returns c =
    let a = c.args in
    let s = c.start-at in
    let h = c.shown-after in
    let n = c.numbers-end in
    let w = wrote_both a.out.now 0 _ _ s.ensures.0 h.ensures.0 (omega (arith, s.ensures.1)) in
    let m = wrote_both a.out.now 0 _ _ w n.ensures.0 (omega (arith, s.ensures.1, h.ensures.1)) in
    ended a.out.now _ m (n.auto.out ∙ (h.auto.out ∙ s.auto.out)) (omega (arith, s.ensures.1, h.ensures.1, n.ensures.1))
