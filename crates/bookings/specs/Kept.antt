-- The record that is kept, as a function of the list of transfers.
use Rattle.std.specs.Prelude.{◌≡◌, Bool, true, false, cond, List, [], ◌∷◌, ◌++◌, map, ℕ, ◌+◌, ◌*◌, ◌<◌, ◌^◌, min, eqb}
use Rattle.std.specs.Prelude.{length, take, replicate}
use Rattle.history.specs.Line.{Line, Every}
use Rattle.bookings.specs.Pairs.{Pair, booked}
use Rattle.bookings.specs.declared.Bookings.{Bookings}

-- A pair as one number.
abbrev pub number : Pair → ℕ
number p = p.source * 256 + p.reference

-- The record of these bookings, newest first: how many of the last 32 there are, and their numbers; what is not there
-- is zero.
unfoldable pub record_of : List Pair → Bookings
record_of bs = record { count = min 32 (length bs); pairs = take 32 (map number bs ++ replicate 32 0) }

-- The record after these transfers.
abbrev pub bookings_at : Line Pair → Bookings
bookings_at ts = record_of (booked ts)

-- A source address and a message reference that fit their fields.
pub record InRange (p : Pair) : Type 0 where
  pub source : p.source < 2 ^ 24
  pub reference : p.reference < 2 ^ 8

-- A list of transfers that leads to this record.
pub record Leads (ts : Line Pair) (b : Bookings) : Type 0 where
  pub fit : Every InRange ts
  pub there : b ≡ bookings_at ts

-- A record that `fresh` or an earlier `book` gave.
pub record Reached (b : Bookings) : Type 0 where
  pub transfers : Line Pair
  pub leads : Leads transfers b

-- Whether a number is among these.
abbrev pub is_in : ℕ → List ℕ → Bool
is_in x [] = false
is_in x (y ∷ ys) = cond (eqb y x) true (is_in x ys)

-- A number put in front of the record: the oldest goes out.
abbrev pub pushed : ℕ → Bookings → Bookings
pushed x b = record { count = min 32 (b.count + 1); pairs = x ∷ take 31 b.pairs }

-- The record after a transfer, and the mark: 1 booked, 2 again.
pub record Entered : Type 0 where
  pub bookings : Bookings
  pub mark : ℕ

-- This record, with this mark.
abbrev pub entered : Bookings → ℕ → Entered
entered b m = record { bookings = b; mark = m }

-- A number entered: it is booked, mark 1; or it is there, nothing moves, and the mark is 2.
abbrev pub entered_as : (again : Bool) → Bookings → ℕ → Entered
entered_as again b x = record { bookings = cond again b (pushed x b); mark = cond again 2 1 }

unfoldable pub entered_in : Bookings → ℕ → Entered
entered_in b x = entered_as (is_in x (take b.count b.pairs)) b x
