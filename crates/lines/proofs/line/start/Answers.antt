use native.Mathlib.Omega.{arith}
use Rattle.lines.proofs.Printing.{wrote_start}
use Rattle.lines.proofs.line.start.Goals as goal

pub returns : goal.returns
returns c =
    let a = c.args in
    let p = c.copy-at in
    let n = c.numbers in (
      wrote_start a.out.now a.word.now a.ns.now p.ensures n.ensures.0
          (omega (arith, p.ensures.after)),
      omega (arith, n.ensures.1, p.ensures.after),
    )
