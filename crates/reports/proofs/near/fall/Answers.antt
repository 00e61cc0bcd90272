use mathlib.Core.Path.{◌≡◌, sym, ◌∙◌, ap}
use Prim.Native.Nat.{◌≤◌}
use native.Mathlib.Omega.{arith}
use native.Mathlib.Numerals.{add-one}
use lib.ListN.{length}
use borrow.Author.Rules.{rules}
use Rattle.history.specs.Step.{no_near}
use Rattle.reports.specs.Nears.{flat}
use Rattle.reports.proofs.NearLaws.{seven, turn_out, turn_on, still_count, still_rows}
use Rattle.reports.proofs.near.fall.Goals as goal
use Rattle.reports.proofs.near.fall.Goals.{then-n-ne0, else-n-ne0}

pub returns-then-not-over : goal.returns-then-not-over
returns-then-not-over c ps e =
    let a = c.args in
    let w : length a.near.now.places ≡ 21 = omega arith in
    let l : a.near.now.count ≤ length ps = omega (arith, seven ps e w) in
    let r = e ∙ ap flat (sym (still_rows ps a.near.now.count l)) in
    rw (c.if-not-over.true) (still_count ps a.near.now.count l, r)

pub loop-i-preserved : goal.loop-i-preserved
loop-i-preserved c =
    let i = c.loop-i.i in
    let k = c.loop-i.k in
    let none : c.default.result ≡ no_near = search rules in
    let places : length c.args.near.now.places ≡ 21 = omega arith in
    elim c.if-n-ne0.branch [
      | then-n-ne0 w ↦ (
        omega (arith, w.k-is),
        rw w.near-is c.loop-i.invariant.1,
        λ ps e.
            let n = seven ps e places in
            rw (w.near-is, w.k-is ∙ add-one k, add-one i)
            (turn_on ps i k (omega arith) (c.loop-i.invariant.2 ps e) c.place-n.ensures
            (rw none at c.put.ensures) w.if-n-ne0.true w.put-then-n-ne0.ensures),
      )
      | else-n-ne0 w ↦ (
        omega (arith, w.k-is),
        rw w.near-is c.loop-i.invariant.1,
        λ ps e.
            let n = seven ps e places in
            rw (w.near-is, w.k-is, add-one i)
            (turn_out ps i k (omega arith) (c.loop-i.invariant.2 ps e) c.place-n.ensures
            (rw none at c.put.ensures) w.if-n-ne0.false),
      )
    ]

pub returns : goal.returns
returns c ps e =
    let l = c.loop-i in
    let z : l.i ≡ c.args.near.now.count = omega arith in
    let t = l.invariant.2 ps e in
    rw (c.if-not-over.false, sym z) (t.count, t.rows)
