use native.Mathlib.Omega.{arith}
use Rattle.text.proofs.Writing.{wrote_both, wrote_more}
use Rattle.slotlog.specs.Print.{line_of}
use Rattle.slotlog.proofs.LineLaws.{byte_few}
use Rattle.slotlog.proofs.print.line.Goals as goal

pub returns-clause-wrote : goal.returns-clause-wrote
unfolding line_of
returns-clause-wrote c =
    let a = c.args in
    let d = c.decimal-next.ensures in
    let n = c.numbers-end.ensures in
    let f = byte_few c.from.result (omega (arith, c.from.ensures, c.ranges.frame)) in
    let w = wrote_both a.out.now a.at _ _ d n.0 (omega (arith, f, d.after)) in
    rw (← c.from.ensures, ← c.from-2.ensures, ← c.from-3.ensures, ← c.from-4.ensures, ← c.from-5.ensures)
    (wrote_more a.out.now a.at _ 10 w (omega (arith, f, d.after, n.1)))
