use native.Mathlib.Omega.{arith}
use Rattle.probe_transport.proofs.Saying.{book_short, book_said}
use Rattle.probe_transport.proofs.book.Goals as goal

pub returns-then-body-lt17 : goal.returns-then-body-lt17
returns-then-body-lt17 c =
    let a = c.args in
    (c.requires.0, book_short a.before a.line.now a.body.now (omega arith))

pub returns : goal.returns
returns c =
    let a = c.args in
    let k = c.booked.ensures in
    let e = c.four.ensures in
    (k.0, book_said a.before a.line.now a.body.now (omega arith) e k.1)
