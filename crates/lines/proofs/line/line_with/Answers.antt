use mathlib.Core.List.{append-nil}
use Rattle.text.specs.Text.{spaced}
use Rattle.lines.specs.Lines.{line_with, line_then}
use Rattle.lines.proofs.line.line_with.Goals as goal

pub returns : goal.returns
unfolding line_with line_then spaced
returns c =
    let a = c.args in
    let w = c.line_then.ensures in
    rw append-nil at w
