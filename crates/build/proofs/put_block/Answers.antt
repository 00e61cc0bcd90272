use mathlib.Core.Path.{◌∙◌}
use native.Mathlib.Omega.{arith}
use lib.ListN.{take, drop}
use Rattle.bits.specs.Bits.{bits_of}
use Rattle.bits.proofs.Bytes.{length_bits_of}
use Rattle.build.proofs.BuildLaws.{block_put, flag_number, length_part}
use Rattle.build.proofs.put_block.Goals as goal

pub returns : goal.returns
returns c =
    let a = c.args in
    let b = bits_of a.message.now in
    let lm = length_bits_of a.message.now in
    let lo = length_bits_of a.out.now in
    c.put_room.ensures
    ∙ rw (c.put_all.ensures, c.from.ensures, flag_number a.last)
    (block_put a.at _ a.count c.told.result (take a.count (drop a.from b)) (bits_of a.out.now)
    (length_part a.count a.from b (omega arith)) c.told.ensures (omega arith) (omega arith))
