use mathlib.Core.Path.{◌∙◌}
use native.Mathlib.Omega.{arith}
use lib.ListN.{take}
use Rattle.bits.specs.Bits.{bits_of}
use Rattle.bits.proofs.Bytes.{length_bits_of}
use Rattle.build.proofs.BuildLaws.{flag_number, length_part, header_put}
use Rattle.build.proofs.put_header.Goals as goal

pub returns : goal.returns
returns c =
    let a = c.args in
    let b = bits_of a.message.now in
    let lm = length_bits_of a.message.now in
    let lo = length_bits_of a.out.now in
    let p = a.plan in
    let flag = c.from-fragmented.ensures ∙ flag_number p.fragmented in
    let first = rw flag at c.header_bits-first.ensures in
    c.put_room.ensures
    ∙ rw (
      c.put_all.ensures,
      c.header_widths-widths.ensures,
      first,
      c.from.ensures,
      c.from-2.ensures,
      c.from-3.ensures,
      c.from-4.ensures,
      c.from-5.ensures,
      c.from-6.ensures,
      c.from-7.ensures,
      c.from-8.ensures,
      c.from-9.ensures,
      flag,
    )
    (header_put _ _ a.countdown p.inside a.fields c.requires.fits c.told.result (take p.inside b)
    (bits_of a.out.now)
    (length_part p.inside 0 b (omega arith)) (rw first at c.told.ensures) (omega arith))
