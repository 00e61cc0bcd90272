use mathlib.Core.Path.{◌∙◌}
use native.Mathlib.Omega.{arith}
use Rattle.bits.proofs.Numbers.{fits_in}
use Rattle.transport.proofs.ElementLaws.{part_code, cut_lt}
use borrow.Author.Rules.{rules}
use Rattle.transport.proofs.elements.part.Goals as goal

pub narrowed-requires : goal.narrowed-requires
narrowed-requires g c =
    let a = c.args in
    rw (part_code a.x a.after a.w (omega (arith, g.met.T.Number.most_of_a_field)))
    (fits_in g.T.Number.most (cut_lt a.after a.w a.x) (search rules))

pub returns : goal.returns
returns g c =
    let a = c.args in c.narrowed.ensures ∙ part_code a.x a.after a.w (omega (arith, g.met.T.Number.most_of_a_field))
