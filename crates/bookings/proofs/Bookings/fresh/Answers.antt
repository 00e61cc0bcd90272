use mathlib.Core.Path.{refl}
use Rattle.history.specs.Line.{start}
use Rattle.bookings.specs.Kept.{record_of}
use Rattle.bookings.proofs.Bookings.fresh.Goals as goal

pub returns : goal.returns
unfolding record_of
returns c = (refl, record { transfers = start; leads = record { fit = tt; there = refl } })
