use mathlib.Core.Path.{◌≡◌}
use Rattle.std.proofs.Common.{arith}
use Rattle.probe.specs.Tells.{with_receiver, with_bookings}
use Rattle.probe.proofs.Telling.{tells_0, tells_4, tells_9, tells_10, tells_11, tells_12, tells_other, received, booked}
use Rattle.probe.proofs.tell.Goals as goal

pub returns-in-0-clause-tells : goal.returns-in-0-clause-tells
returns-in-0-clause-tells c =
    let a = c.args in
    let k = c.unit.ensures in
    let e : c.kept.result ≡ with_receiver a.before c.unit.result =
    received a.before c.kept.ensures.state c.kept.ensures.line in
    (tells_0 a.before c.requires.reached a.kind a.body.now a.line.now _ k.0 c.in-0.is k.1 e).1

pub returns-in-4-clause-tells : goal.returns-in-4-clause-tells
returns-in-4-clause-tells c =
    let a = c.args in
    let k = c.report.ensures in
    let e : c.kept-in-4.result ≡ with_receiver a.before c.report.result =
    received a.before c.kept-in-4.ensures.state c.kept-in-4.ensures.line in
    (tells_4 a.before c.requires.reached a.kind a.body.now a.line.now _ k.0 c.in-4.is k.1 e).1

pub returns-in-9-clause-tells : goal.returns-in-9-clause-tells
returns-in-9-clause-tells c =
    let a = c.args in
    (tells_9 a.before c.requires.reached a.kind a.body.now a.line.now _
    c.read-line.result c.in-9.is c.read-line.ensures).1

pub returns-in-10-clause-tells : goal.returns-in-10-clause-tells
returns-in-10-clause-tells c =
    let a = c.args in
    (tells_10 a.before c.requires.reached a.kind a.body.now a.line.now _
    c.build-line.result c.in-10.is c.build-line.ensures).1

pub returns-in-11-clause-tells : goal.returns-in-11-clause-tells
returns-in-11-clause-tells c =
    let a = c.args in
    let k = c.fresh.ensures in
    let e : c.kept-in-11.result ≡ with_bookings a.before c.fresh.result =
    booked a.before c.kept-in-11.ensures.state c.kept-in-11.ensures.line in
    (tells_11 a.before c.requires.reached a.kind a.body.now a.line.now _ k.0 c.in-11.is k.1 e).1

pub returns-in-12-clause-tells : goal.returns-in-12-clause-tells
returns-in-12-clause-tells c =
    let a = c.args in
    let k = c.book.ensures in
    let e : c.kept-in-12.result ≡ with_bookings a.before c.book.result =
    booked a.before c.kept-in-12.ensures.state c.kept-in-12.ensures.line in
    (tells_12 a.before c.requires.reached a.kind a.body.now a.line.now _ k.0 c.in-12.is k.1 e).1

pub returns-in_default-clause-tells : goal.returns-in_default-clause-tells
returns-in_default-clause-tells c =
    let a = c.args in
    (tells_other a.before c.requires.reached a.kind a.body.now a.line.now _ c.answer-line.result
    (omega arith) (omega arith) (omega arith) (omega arith) (omega arith) (omega arith) c.answer-line.ensures).1
