use native.Mathlib.Omega.{arith}
use Rattle.probe_transport.proofs.Saying.{fresh_said}
use Rattle.probe_transport.proofs.fresh.Goals as goal

pub returns : goal.returns
returns c =
    let a = c.args in
    let f = c.fresh-bookings.ensures in
    let w = c.copy.ensures in
    let kept = c.copy.auto in
    (f.1, fresh_said a.line.now f.0 (record { wrote = w; fits = omega (arith, w.after, kept) }))
