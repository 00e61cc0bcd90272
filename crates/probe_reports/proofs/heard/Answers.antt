use Prim.Native.Nat.{◌-◌, ◌≤◌}
use native.Mathlib.Omega.{arith}
use lib.ListN.{length, take, drop, get_or}
use Rattle.reports.specs.Lent.{lent}
use Rattle.probe_reports.specs.Reports.{handed_by_reply}
use Rattle.probe_reports.proofs.Telling.{handed_inside, report_heard}
use Rattle.probe_reports.proofs.heard.Goals as goal

pub report_line-requires : goal.report_line-requires
report_line-requires c =
    let k = c.hear-reply in
    let a = c.args in
    let p = c.requires in
    let b = a.body.now in
    let l = lent (get_or b 0 0) (get_or b 1 0) (get_or b 2 0) (take (length b - 5) (drop 5 b)) in
    let w : handed_by_reply k.result.answer ≤ length a.message.now =
    handed_inside a.before p.0 l k.result a.message.now _ k.ensures.1 k.auto.message in
    (omega (arith, w, k.auto), omega (arith, p, k.auto), omega (arith, p))

pub returns : goal.returns
returns c =
    let k = c.hear-reply.ensures in
    let a = c.args in (
      k.0,
      report_heard a.before a.line.now a.body.now a.message.now k.1
          c.report_line.ensures,
    )
