use Rattle.probe_blocks.proofs.Saying.{line_5, line_6, line_7, line_8, line_other}
use Rattle.std.proofs.Common.{arith}
use Rattle.probe_blocks.proofs.answer.Goals as goal

pub returns-in-5 : goal.returns-in-5
returns-in-5 c =
    let a = c.args in
    rw (line_5 a.kind a.body.now c.in-5.is)
    c.build.ensures

pub returns-in-6 : goal.returns-in-6
returns-in-6 c =
    let a = c.args in
    rw (line_6 a.kind a.body.now c.in-6.is)
    c.header.ensures

pub returns-in-7 : goal.returns-in-7
returns-in-7 c =
    let a = c.args in
    rw (line_7 a.kind a.body.now c.in-7.is)
    c.block.ensures

pub returns-in-8 : goal.returns-in-8
returns-in-8 c =
    let a = c.args in
    rw (line_8 a.kind a.body.now c.in-8.is)
    c.frame.ensures

pub returns-in_default : goal.returns-in_default
returns-in_default c =
    let a = c.args in
    rw (line_other a.kind a.body.now (omega arith) (omega arith) (omega arith) (omega arith))
    c.unknown.ensures
