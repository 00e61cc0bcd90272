use native.Mathlib.Omega.{arith}
use Rattle.bits.specs.Bits.{bits_of}
use Rattle.blocks.proofs.WidthLaws.{width_le_279}
use Rattle.blocks.proofs.HeaderLaws.{next_le}
use Rattle.blocks.proofs.header.tail_at.Goals as goal

pub overflow_add-result : goal.overflow_add-result
overflow_add-result c =
    let b = bits_of c.args.h.now in
    let d = c.address_at-d in
    omega (
      arith,
      next_le c.args.at b d.ensures,
      next_le d.result.next b c.address_at-s.ensures,
      width_le_279 c.get-message.result _ c.width_at-width.ensures,
    )
