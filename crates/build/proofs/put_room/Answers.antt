use mathlib.Core.Path.{◌∙◌}
use native.Mathlib.Omega.{arith}
use lib.ListN.{take, drop}
use Rattle.bits.specs.Bits.{bits_of}
use Rattle.bits.proofs.Bytes.{length_bits_of}
use Rattle.build.proofs.BuildLaws.{room_put, length_part}
use Rattle.build.proofs.put_room.Goals as goal

pub returns : goal.returns
returns c =
    let a = c.args in
    let b = bits_of a.message.now in
    let lm = length_bits_of a.message.now in
    let lo = length_bits_of a.out.now in
    c.put.ensures
    ∙ rw (c.fill.ensures, c.copy.ensures)
    (room_put a.at a.count a.room (take a.count (drop a.from b)) (bits_of a.out.now)
    (length_part a.count a.from b (omega arith)) (omega arith) (omega arith))
