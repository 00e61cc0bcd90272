use mathlib.Core.Path.{◌∙◌}
use native.Mathlib.Omega.{arith}
use Rattle.bits.specs.Bits.{bits_of}
use Rattle.bits.proofs.Bytes.{length_bits_of}
use Rattle.transport.proofs.BuildLaws.{fcs_put, fcs_none}
use Rattle.transport.proofs.building.put_fcs.Goals as goal

pub returns-then-flag-eq1 : goal.returns-then-flag-eq1
returns-then-flag-eq1 c =
    let a = c.args in
    c.put.ensures
    ∙ fcs_put a.flag a.end c.from.result (bits_of a.out.now) c.if-flag-eq1.true
    (omega (arith, length_bits_of a.out.now)) (c.from.ensures ∙ c.fcs_of-c.ensures)

pub returns-else-flag-eq1 : goal.returns-else-flag-eq1
returns-else-flag-eq1 c =
    let a = c.args in
    fcs_none a.flag a.end (bits_of a.out.now) c.if-flag-eq1.false (omega (arith, length_bits_of a.out.now))
