-- The calls that a program makes of one index. `fresh` promises `bookings_at start`, `book` promises `Books`; it asks
-- for a record that `fresh` or an earlier `book` gave, and nothing else.
use Rattle.std.specs.Prelude.{◌≡◌, cond, List, [], ◌∷◌, ℕ, eqb}
use Rattle.history.specs.Line.{Line, start, ◌▸◌}
use Rattle.bookings.specs.Pairs.{Pair}
use Rattle.bookings.specs.Kept.{bookings_at}
use Rattle.bookings.specs.Book.{Lent, is_transfer, pair_of, Books}
use Rattle.bookings.specs.declared.Bookings.{Bookings}
use Rattle.bookings.specs.declared.Reply.{Reply}

-- One call of `book`: the record before, what was lent, and the reply.
pub record Call : Type 0 where
  pub before : Bookings
  pub lent : Lent
  pub reply : Reply
  pub books : Books before lent reply

-- Its mark, and its pair.
abbrev pub mark : Call → ℕ
mark c = c.reply.booked.mark

abbrev pub pair : Call → Pair
pair c = pair_of c.lent

-- The record after these calls, oldest first.
abbrev pub after : Line Call → Bookings
after start = bookings_at start
after (cs ▸ c) = c.reply.bookings

-- They begin with `fresh`, and each is handed the record that the one before gave.
abbrev pub InTurn : Line Call → Type 0
InTurn start = Unit {0}
InTurn (cs ▸ c) = InTurn cs × (c.before ≡ after cs)

-- The pairs of the calls that were marked 1, newest first.
abbrev pub marked : Line Call → List Pair
marked start = []
marked (cs ▸ c) = cond (eqb (mark c) 1) (pair c ∷ marked cs) (marked cs)

-- The transfers among them.
abbrev pub transfers : Line Call → Line Pair
transfers start = start
transfers (cs ▸ c) = cond (is_transfer c.lent) (transfers cs ▸ pair c) (transfers cs)
