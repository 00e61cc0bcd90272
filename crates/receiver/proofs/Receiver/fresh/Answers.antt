use mathlib.Core.Path.{refl, sym, ◌∙◌}
use Rattle.receiver.proofs.HearLaws.{fresh_reached}
use Rattle.receiver.proofs.Receiver.fresh.Goals as goal

pub returns-then-fit : goal.returns-then-fit
returns-then-fit c =
    let a = c.args in
    let e = sym c.fit.ensures ∙ c.if-fit.true in
    rw c.new.ensures (rw e refl, fresh_reached a.individual a.group a.mni e)

pub returns : goal.returns
returns c =
    let e = sym c.fit.ensures ∙ c.if-fit.false in
    rw (c.new-2.ensures, c.number.ensures) (rw e refl, fresh_reached 0 0 0 refl)
