use mathlib.Core.Path.{sym, refl}
use lib.ListN.{replicate}
use lib.Seq.{length-take-le}
use Rattle.probe.proofs.Telling.{told_fits}
use Rattle.probe.proofs.answer_record.Goals as goal

pub slice_bounds-out-end : goal.slice_bounds-out-end
slice_bounds-out-end g c =
    let a = c.args in
    let t = c.tell-after in
    told_fits a.body.now (replicate 4096 0) _ a.before a.kind t.result c.in-Some.is t.ensures.tells

pub slice_bounds-say-end : goal.slice_bounds-say-end
slice_bounds-say-end g c =
    let a = c.args in
    let t = c.tell-after in
    sym
    (length-take-le c.in-Some.n t.new.line
    (told_fits a.body.now (replicate 4096 0) _ a.before a.kind t.result c.in-Some.is t.ensures.tells))

pub returns : goal.returns
returns g c =
    let t = c.tell-after in
    rw (← c.step.ensures.kept)
    (t.ensures.reached, record { next = t.result; line = _; tells = t.ensures.tells; kept = refl })
