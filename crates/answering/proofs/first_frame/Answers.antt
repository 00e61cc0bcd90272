use native.Mathlib.Omega.{arith}
use Rattle.answering.proofs.FrameLaws.{last_soon, flag_small}
use Rattle.answering.proofs.first_frame.Goals as goal

pub overflow_add-result : goal.overflow_add-result
overflow_add-result c = omega (arith, c.last_frame.ensures, last_soon c.args.r c.requires.fits)

pub overflow_add-result-2 : goal.overflow_add-result-2
overflow_add-result-2 c =
    omega (arith, c.last_frame.ensures, last_soon c.args.r c.requires.fits, c.from.ensures, flag_small)
