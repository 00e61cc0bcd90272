use native.Mathlib.Omega.{arith}
use Rattle.lines.proofs.Printing.{ended}
use Rattle.lines.proofs.line.bytes.Goals as goal

pub returns : goal.returns
returns c =
    let a = c.args in
    let h = c.hex-end in
    ended a.out.now _ h.ensures.0 h.auto.out (omega (arith, h.ensures.1))
