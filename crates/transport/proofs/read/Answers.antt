use mathlib.Core.Path.{sym, ◌∙◌}
use Rattle.transport.proofs.ReadLaws.{lent_refused, lent_read}
use Rattle.transport.proofs.read.Goals as goal

pub returns-then-not-bits_lent : goal.returns-then-not-bits_lent
returns-then-not-bits_lent c =
    let a = c.args in rw (c.refused.ensures, c.number.ensures)
    (lent_refused a.fields.message a.fields.elements a.n a.sdu.now (sym c.bits_lent.ensures ∙ c.if-not-bits_lent.true))

pub returns-in-Ok : goal.returns-in-Ok
returns-in-Ok c =
    let a = c.args in
    c.in-Ok.ensures
    ∙ lent_read a.fields.message a.fields.elements a.n a.sdu.now (sym c.bits_lent.ensures ∙ c.if-not-bits_lent.false)

pub returns-in-Err : goal.returns-in-Err
returns-in-Err c =
    let a = c.args in
    rw (c.refused-in-Err.ensures, c.number-in-Err.ensures)
    (c.in-Err.ensures
    ∙ lent_read a.fields.message a.fields.elements a.n a.sdu.now (sym c.bits_lent.ensures ∙ c.if-not-bits_lent.false))
