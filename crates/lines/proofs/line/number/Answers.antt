use native.Mathlib.Omega.{arith}
use Rattle.text.proofs.Digits.{decimal_few}
use Rattle.lines.proofs.Printing.{ended}
use borrow.Author.Rules.{rules}
use Rattle.lines.proofs.line.number.Goals as goal

pub decimal-end-requires : goal.decimal-end-requires
decimal-end-requires c = omega (arith, decimal_few 19 c.args.n (omega arith))

pub bounds-out-end : goal.bounds-out-end
bounds-out-end c =
    let d = c.decimal-end in
    let few = decimal_few 19 c.args.n (omega arith) in
    omega (arith, d.ensures.after, d.auto.out, few)

pub overflow_add-result : goal.overflow_add-result
overflow_add-result c = let h = bounds-out-end c in search rules

pub returns : goal.returns
returns c =
    let a = c.args in
    let d = c.decimal-end in
    ended a.out.now _ d.ensures d.auto.out (let h = bounds-out-end c in omega (arith, d.auto.out))
