use native.Mathlib.Omega.{arith}
use Rattle.probe_reports.proofs.Telling.{unit_short, unit_said}
use Rattle.probe_reports.proofs.unit.Goals as goal

pub returns-then-body-lt12 : goal.returns-then-body-lt12
returns-then-body-lt12 c =
    let a = c.args in
    (c.requires.0, unit_short a.before a.line.now a.body.now (omega arith))

pub returns : goal.returns
returns c =
    let a = c.args in
    let f = c.fresh-fresh.ensures in (
      f.1,
      unit_said a.before a.line.now a.body.now (omega arith)
          c.four.ensures
          c.four-2.ensures
          c.four-3.ensures f.0
          c.unit_line.ensures,
    )
