use native.Mathlib.Omega.{arith}
use Rattle.probe_transport.proofs.Saying.{read_short, read_said}
use Rattle.probe_transport.proofs.read.Goals as goal

pub returns-then-body-lt13 : goal.returns-then-body-lt13
returns-then-body-lt13 c = let a = c.args in read_short a.line.now a.body.now (omega arith)

pub returns : goal.returns
returns c =
    let a = c.args in
    read_said a.line.now a.body.now (omega arith)
    c.fields-fields.ensures c.four-n.ensures c.read-t.ensures c.read.ensures
