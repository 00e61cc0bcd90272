use mathlib.Core.Path.{sym, ◌∙◌}
use Rattle.history.proofs.Verdicts.{absurd_bool}
use Rattle.reports.specs.Lent.{lent}
use Rattle.reports.proofs.ReadLaws.{other_reads}
use Rattle.reports.proofs.read.read.Goals as goal

pub returns : goal.returns
returns c =
    let a = c.args in
    let h = sym c.if-eq.false ∙ c.eq.ensures in
    let b = sym c.if-eq-2.false ∙ c.eq-2.ensures in
    rw c.headless.ensures
    (other_reads a.settings (lent a.q.frame a.q.slot a.kind a.blocks.now)
    (λ e. absurd_bool (rw (c.of-kind.ensures, e) at h))
    (λ e. absurd_bool (rw (c.of-kind.ensures, e) at b)))
