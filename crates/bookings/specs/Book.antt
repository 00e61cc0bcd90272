-- What `book` promises: what it reads, the mark, and the record afterwards.
use Rattle.std.specs.Prelude.{◌≡◌, ◌↔◌, Bool, true, cond, ◌&&◌, List, ℕ, ◌^◌, eqb, ltb}
use Rattle.blocks.specs.declared.header.Fields.{Fields}
use Rattle.transport.specs.Reading.{read_of, refused_transport}
use Rattle.transport.specs.declared.Transport.{Transport}
use Rattle.history.specs.Line.{Line, ◌▸◌}
use Rattle.bookings.specs.Pairs.{Pair, IsBooked, IsAgain}
use Rattle.bookings.specs.Kept.{Leads}
use Rattle.bookings.specs.declared.Bookings.{Bookings}
use Rattle.bookings.specs.declared.Mark.{Mark}
use Rattle.bookings.specs.declared.Mark.TheVariants.{Nothing, New, Again}
use Rattle.bookings.specs.declared.Booked.{Booked}
use Rattle.bookings.specs.declared.Reply.{Reply}

-- What is lent to a call: the header's fields, and n bits of a DM-SDU.
pub record Lent : Type 0 where
  pub fields : Fields
  pub n : ℕ
  pub sdu : List ℕ

abbrev pub lent : Fields → ℕ → List ℕ → Lent
lent f n s = record { fields = f; n = n; sdu = s }

-- What is read: a source of 2^24 or more is refused with 13, and then it is what `transport::read` gives.
unfoldable pub reading_of : Lent → Transport
reading_of l =
    cond (ltb l.fields.source.ssi (2 ^ 24))
    (read_of l.fields.message l.fields.elements l.n l.sdu)
    (refused_transport 13)

-- It is a transfer: no fault, and kind 1.
abbrev pub is_transfer : Lent → Bool
is_transfer l = eqb (reading_of l).fault 0 && eqb (reading_of l).message.kind 1

abbrev pub Transfer : Lent → Type 0
Transfer l = is_transfer l ≡ true

-- Its pair: the header's source address, and the message reference.
abbrev pub pair_of : Lent → Pair
pair_of l = record { source = l.fields.source.ssi; reference = (reading_of l).message.reference }

-- The marks' numbers.
abbrev pub number_of : Mark → ℕ
number_of Nothing = 0
number_of New = 1
number_of Again = 2

-- A reply, of a record and what was booked.
abbrev pub booked_reply : Bookings → Booked → Reply
booked_reply b a = record { bookings = b; booked = a }

-- The one with this mark.
abbrev pub reply_of : Bookings → ℕ → Transport → Reply
reply_of b m t = booked_reply b (record { mark = m; transport = t })

-- A transfer after these: mark 1 where it is booked, 2 where it is "again", and the list with it leads to the record
-- afterwards.
pub record Enters (ts : Line Pair) (p : Pair) (r : Reply) : Type 0 where
  pub booked : (r.booked.mark ≡ 1) ↔ IsBooked ts p
  pub again : (r.booked.mark ≡ 2) ↔ IsAgain ts p
  pub leads : Leads (ts ▸ p) r.bookings

-- What `book` answers: what was read; a transfer is entered, for all transfers that lead to the record before; where it
-- is none, the mark is 0 and the record is as it was.
pub record Books (before : Bookings) (l : Lent) (r : Reply) : Type 0 where
  pub transport : r.booked.transport ≡ reading_of l
  pub transfer : Transfer l → (ts : Line Pair) → Leads ts before → Enters ts (pair_of l) r
  pub other : (Transfer l → ⊥) → (r.booked.mark ≡ 0) × (r.bookings ≡ before)
