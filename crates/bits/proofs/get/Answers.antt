use Rattle.bits.proofs.Numbers.{fits_in}
use borrow.Author.Rules.{rules}
use Rattle.bits.proofs.get.Goals as goal

pub narrowed-requires : goal.narrowed-requires
narrowed-requires g c = fits_in g.T.Number.most c.field.ensures.small (search rules)
