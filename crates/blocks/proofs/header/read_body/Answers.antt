use mathlib.Core.Path.{sym}
use native.Mathlib.Omega.{arith}
use Rattle.bits.specs.Bits.{bits_of}
use Rattle.blocks.proofs.ReadLaws.{held_all}
use Rattle.blocks.proofs.header.read_body.Goals as goal

pub tail_fields-requires : goal.tail_fields-requires
tail_fields-requires c =
    let k = held_all (bits_of c.args.h.now) c.body_of-b.ensures (sym c.in-Ok.ensures.faults) in
    omega arith
