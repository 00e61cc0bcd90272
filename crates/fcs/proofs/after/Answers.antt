use native.Mathlib.Omega.{arith}
use Rattle.fcs.proofs.Numbers.{twice_code}
use Rattle.fcs.proofs.after.Goals as goal

pub returns : goal.returns
returns c =
    let a = c.args in
    let j = c.min-first.result in
    twice_code a.c a.x a.k j c.turned.result c.turned-2.result
    (omega arith) (omega arith) (omega arith) (omega arith)
    (rw c.from.ensures at c.turned.ensures) c.turned-2.ensures
