use native.Mathlib.Omega.{arith}
use borrow.Author.Tests.{eq-eqb}
use lib.Seq.{slice}
use Rattle.bits.specs.Bits.{bits_of}
use Rattle.bits.specs.Fill.{strip}
use Rattle.bits.proofs.Bytes.{length_bits_of}
use Rattle.bits.proofs.Tests.{tests}
use Rattle.blocks.proofs.RoomLaws.{room_length, found_end}
use Rattle.blocks.proofs.sdu.sdu_end.Goals as goal

pub returns-then-fill-ne1-clause-end : goal.returns-then-fill-ne1-clause-end
returns-then-fill-ne1-clause-end c =
    let a = c.args in
    search (tests, room_length a.from a.to (bits_of a.s.now) (omega arith) (omega (arith, length_bits_of a.s.now)))

pub returns : goal.returns
returns c =
    let a = c.args in
    let room = slice a.from a.to (bits_of a.s.now) in
    let r = found_end a.from (strip room) {r = c.ok_or.result} (rw c.last_one.ensures at c.ok_or.ensures.value) in
    rw (eq-eqb a.fill 1 c.if-fill-ne1.false) (record { faults = r.0; end = r.1 })
