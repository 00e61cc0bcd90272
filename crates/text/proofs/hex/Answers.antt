use mathlib.Core.Path.{refl}
use native.Mathlib.Omega.{arith}
use lib.ListN.{length-set}
use Rattle.text.proofs.Runs.{hex_none, wrote_byte}
use Rattle.text.proofs.hex.Goals as goal

pub loop-b-init : goal.loop-b-init
loop-b-init c = let a = c.args in (omega arith, omega arith, hex_none a.out.now a.at, refl)

pub loop-b-preserved : goal.loop-b-preserved
loop-b-preserved c =
    let a = c.args in
    let l = c.loop-b in (
      omega arith,
      omega arith,
      rw (c.hex_digit.ensures, c.hex_digit-in-loop-b.ensures)
          (wrote_byte a.out.now a.at a.s.now l.b-index (omega arith) (omega arith) l.invariant.2),
      simp length-set l.invariant.3,
    )
