use mathlib.Core.Path.{◌≡◌, sym, ◌∙◌, ap}
use native.Mathlib.Omega.{arith}
use native.Mathlib.Numerals.{add-one}
use lib.ListN.{length}
use Rattle.history.specs.Step.{fits}
use Rattle.history.specs.declared.Near.{Near}
use Rattle.reports.proofs.NearLaws.{seven, not_here, found_here}
use Rattle.reports.proofs.near.copied.Goals as goal

pub returns-then-fits : goal.returns-then-fits
returns-then-fits c ps e =
    let a = c.args in
    let l : length a.near.now.places ≡ 21 = omega arith in
    let n = seven ps e l in
    let y = ap (λ (n : Near). fits n a.raw a.countdown) (sym (c.place.ensures ps e))
    ∙ sym c.fits.ensures ∙ c.if-fits.true in
    sym (found_here ps c.loop-i.i (omega arith) a.raw a.countdown y a.near.now.count (omega arith))

pub loop-i-preserved : goal.loop-i-preserved
loop-i-preserved c ps e =
    let a = c.args in
    let l : length a.near.now.places ≡ 21 = omega arith in
    let n = seven ps e l in
    let y = ap (λ (n : Near). fits n a.raw a.countdown) (sym (c.place.ensures ps e))
    ∙ sym c.fits.ensures ∙ c.if-fits.false in
    let i = c.loop-i.i in
    rw (add-one i) (not_here ps i (omega arith) a.raw a.countdown (c.loop-i.invariant ps e) y)
