use Prim.Native.Nat.{◌<◌, ◌^◌}
use native.Mathlib.Omega.{arith}
use Rattle.bookings.specs.Kept.{entered}
use Rattle.bookings.specs.Book.{lent, number_of}
use Rattle.bookings.proofs.KeptLaws.{leads_count}
use Rattle.bookings.proofs.BookLaws.{source_fits, transfer_books}
use Rattle.bookings.proofs.Bookings.book_in_place.Goals as goal

pub enter-mark-requires : goal.enter-mark-requires
enter-mark-requires c =
    let l = lent c.args.fields c.args.n c.args.sdu.now in
    let z = rw c.reading-transport.ensures at c.if-transport-ne0.false in
    (leads_count c.requires.transfers c.args.self.now c.requires.leads, source_fits l z)

pub returns : goal.returns
returns c =
    let l = lent c.args.fields c.args.n c.args.sdu.now in
    let t = c.reading-transport in
    let h : t.result.message.reference < 2 ^ 8 = omega arith in
    let x = entered c.enter-mark.new.self (number_of c.enter-mark.result) in
    rw c.number-2.ensures
    (transfer_books c.args.self.now l t.result x c.requires t.ensures c.if-transport-ne0.false
    c.if-transport-ne1.false h
    c.enter-mark.ensures)
