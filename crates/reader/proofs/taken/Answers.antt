use mathlib.Core.Path.{◌∙◌}
use native.Mathlib.Omega.{arith}
use Rattle.reader.specs.Reading.{left_of}
use Rattle.reader.proofs.Steps.{there, none_taken}
use Rattle.reader.proofs.taken.Goals as goal

pub returns-then-w-eq0 : goal.returns-then-w-eq0
returns-then-w-eq0 c = c.in_ok-past.ensures ∙ none_taken c.args.s.now c.args.at c.args.w c.if-w-eq0.true

pub get-requires : goal.get-requires
unfolding left_of
get-requires c =
    let h = there c.args.s.now c.args.at c.args.w (c.in_ok-past.ensures) in omega arith
