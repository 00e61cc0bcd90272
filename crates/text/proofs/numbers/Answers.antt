use mathlib.Core.Path.{refl, ◌∙◌}
use native.Mathlib.Omega.{arith}
use lib.ListN.{get_or, length-set}
use Rattle.text.proofs.Digits.{decimal_few}
use Rattle.text.proofs.Runs.{spaced_none, wrote_number}
use Rattle.text.proofs.numbers.Goals as goal

pub loop-n-init : goal.loop-n-init
loop-n-init c = let a = c.args in (omega arith, omega arith, spaced_none a.out.now a.at, refl)

pub decimal-next-requires : goal.decimal-next-requires
decimal-next-requires c =
    let a = c.args in
    let l = c.loop-n in
    let n = get_or a.ns.now l.n-index 0 in
    simp length-set (omega (arith, decimal_few 19 n (omega (arith, c.type_inv.ns l.n-index))))

pub loop-n-preserved : goal.loop-n-preserved
loop-n-preserved c =
    let a = c.args in
    let l = c.loop-n in
    let n = get_or a.ns.now l.n-index 0 in
    let f = decimal_few 19 n (omega (arith, c.type_inv.ns l.n-index)) in
    let d = c.decimal-next in (
      omega arith,
      omega (arith, f, d.ensures.after),
      wrote_number a.out.now a.at a.ns.now l.n-index (omega arith) (omega arith) l.invariant.2 d.ensures,
      d.auto.out ∙ simp length-set l.invariant.3,
    )
