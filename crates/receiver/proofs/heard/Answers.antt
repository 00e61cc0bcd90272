use mathlib.Core.Path.{refl, ◌∙◌}
use Rattle.reports.specs.Lent.{lent}
use Rattle.receiver.proofs.HearLaws.{brings_fault, brings_read}
use Rattle.receiver.proofs.heard.Goals as goal

pub returns-in-Ok : goal.returns-in-Ok
returns-in-Ok c = rw c.in-Ok.is (brings_read c.read.ensures)

pub returns-in-Err : goal.returns-in-Err
returns-in-Err c =
    let a = c.args in
    rw c.in-Err.is
    (brings_fault c.in-Err.fault a.settings (lent a.q.frame a.q.slot a.kind a.blocks.now)
    (c.headless.ensures ∙ rw c.number.ensures refl))
