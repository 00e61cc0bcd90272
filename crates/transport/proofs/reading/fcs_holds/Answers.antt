use native.Mathlib.Omega.{arith}
use Rattle.transport.proofs.ReadLaws.{fcs_there}
use Rattle.transport.proofs.reading.fcs_holds.Goals as goal

pub returns : goal.returns
returns c =
    let a = c.args in
    fcs_there a.end a.n a.s.now (omega arith) a.flag c.if-flag-ne1.false c.if-n-end.false
    c.get.ensures.is c.fcs_of.ensures
