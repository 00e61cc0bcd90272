use Prim.Native.Nat.{◌^◌}
use borrow.Author.Tests.{lt-ltb, le-ltb}
use Rattle.bookings.specs.Book.{reading_of}
use Rattle.bookings.proofs.reading.Goals as goal

pub returns-then-fields-lt-END : goal.returns-then-fields-lt-END
unfolding reading_of
returns-then-fields-lt-END c = rw (lt-ltb _ (2 ^ 24) c.if-fields-lt-END.true) c.read.ensures

pub returns : goal.returns
unfolding reading_of
returns c = rw (le-ltb _ (2 ^ 24) c.if-fields-lt-END.false, ← c.number.ensures) c.refused.ensures
