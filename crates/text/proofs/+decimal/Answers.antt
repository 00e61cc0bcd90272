use Rattle.std.proofs.Common.{ℕ, arith, ap, length, ◌<◌}
use Rattle.text.proofs.Digits.{decimal_small, decimal_length, wrote_small, wrote_large}
use Rattle.text.proofs.+decimal.Goals as goal
use Rattle.text.proofs.+decimal.Goals.{After-decimal-next}

pub bounds-out-at : goal.bounds-out-at
bounds-out-at t c = omega (arith, c.requires, ap length (decimal_small c.args.n (omega arith)))

pub returns-then-n-lt10 : goal.returns-then-n-lt10
returns-then-n-lt10 t c = wrote_small c.args.out.now c.args.at c.args.n (omega arith) c.requires

pub decimal-next-requires : goal.decimal-next-requires
decimal-next-requires t c =
    (omega arith, omega (arith, c.requires, decimal_length c.args.n (omega arith)))

-- there is room for the last digit
after : (t : ℕ) (c : After-decimal-next t) → c.decimal-next.result < length c.decimal-next.new.out
after t c =
    omega (
      arith,
      c.requires,
      decimal_length c.args.n (omega arith),
      c.decimal-next.ensures.after,
      c.decimal-next.auto.out,
    )

pub bounds-out-next : goal.bounds-out-next
bounds-out-next t c = after t (goal.at.bounds-out-next t c).After-decimal-next

pub overflow_add-result-2 : goal.overflow_add-result-2
overflow_add-result-2 t c = let r = after t (goal.at.overflow_add-result-2 t c).After-decimal-next in omega arith

pub returns : goal.returns
returns t c =
    wrote_large c.args.out.now c.args.at c.args.n (omega arith) c.requires c.decimal-next.ensures
