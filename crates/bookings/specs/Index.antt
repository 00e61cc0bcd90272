-- What is shown of the index, over any list of transfers and over any calls. A transfer is booked exactly if its pair
-- is not among the last 32 booked: `IsBooked` and `IsAgain`, in specs/Pairs.antt, say just that, and `booked` is the
-- list of what is booked, newest first. Over calls, in specs/Calls.antt, `marked` is the list of what the answers
-- marked 1, newest first. None of them looks at a record.
use Rattle.std.specs.Prelude.{◌≡◌, ◌⊎◌, ◌↔◌, List, ◌∷◌, ◌++◌, ℕ, ◌+◌, ◌≤◌, ◌<◌, length, take}
use Rattle.history.specs.Line.{Line, start, ◌▸◌, ◌⧺◌, Every}
use Rattle.bookings.specs.Pairs.{Pair, In, last32, booked, since, IsAgain, IsBooked, On, Different, times}
use Rattle.bookings.specs.Kept.{bookings_at, Reached}
use Rattle.bookings.specs.Book.{Lent, reading_of, Transfer, Books}
use Rattle.bookings.specs.Calls.{Call, mark, pair, after, InTurn, marked, transfers}
use Rattle.bookings.specs.declared.Bookings.{Bookings}
use Rattle.bookings.specs.declared.Reply.{Reply}

pub record OverTransfers : Type 0 where
  -- Each transfer is booked or marked "again". Booking puts its pair in front; "again" moves nothing, so that the
  -- oldest booking goes out first.
  pub either : (ts : Line Pair) (p : Pair) → IsBooked ts p ⊎ IsAgain ts p
  pub books : (ts : Line Pair) (p : Pair) → IsBooked ts p → booked (ts ▸ p) ≡ p ∷ booked ts
  pub again : (ts : Line Pair) (p : Pair) → IsAgain ts p
      → (booked (ts ▸ p) ≡ booked ts) × (bookings_at (ts ▸ p) ≡ bookings_at ts)
  -- A pair is booked at its first transfer.
  pub first : (ts : Line Pair) (p : Pair) → (On p ts → ⊥) → IsBooked ts p
  -- After its last booking a pair is booked again exactly when 32 others have been booked since; and the last 32 booked
  -- are all different pairs.
  pub later : (ts us : Line Pair) (p : Pair) → IsBooked ts p → (In p (since (ts ▸ p) us) → ⊥)
      → IsBooked (ts ▸ p ⧺ us) p ↔ (32 ≤ length (since (ts ▸ p) us))
  pub different : (ts : Line Pair) → Different (last32 (booked ts))
  -- Transfers of at most 32 different pairs, in any order and as often as you like: each pair is booked exactly once.
  pub once : (ts : Line Pair) (ps : List Pair) → length ps ≤ 32 → Every (λ (t : Pair). In t ps) ts → (p : Pair)
      → On p ts → times p (booked ts) ≡ 1
  -- One of the last k booked is still in the index as long as that and the bookings since are no more than 32.
  pub stays : (k : ℕ) (ts us : Line Pair) (p : Pair) → In p (take k (booked ts)) → k + length (since ts us) ≤ 32
      → IsAgain (ts ⧺ us) p
  -- A transfer that is booked and heard again, with fewer than 32 bookings between, is marked "again" the second time;
  -- and however often it was heard between, it is booked exactly once.
  pub heard_again : (ts us : Line Pair) (p : Pair) → IsBooked ts p → length (since (ts ▸ p) us) < 32
      → IsAgain (ts ▸ p ⧺ us) p × (times p (since ts (start ▸ p ⧺ us ▸ p)) ≡ 1)
  -- What is booked of further transfers stands in front of what was booked before.
  pub further : (ts us : Line Pair) → booked (ts ⧺ us) ≡ since ts us ++ booked ts
  -- The record says how many of the last 32 there are.
  pub count : (ts : Line Pair) → (bookings_at ts).count ≡ length (last32 (booked ts))

-- Calls begin with `fresh`; refused messages and messages that are no transfers may stand anywhere between.
pub record OverCalls : Type 0 where
  -- A call books exactly if it reads a transfer whose pair is not among the last 32 booked; it says "again" exactly if
  -- it reads a transfer whose pair is, and nothing exactly if it reads none.
  pub books : (cs : Line Call) (c : Call) → InTurn (cs ▸ c)
      → (mark c ≡ 1) ↔ (Transfer c.lent × (In (pair c) (last32 (marked cs)) → ⊥))
  pub again : (cs : Line Call) (c : Call) → InTurn (cs ▸ c)
      → (mark c ≡ 2) ↔ (Transfer c.lent × In (pair c) (last32 (marked cs)))
  pub nothing : (cs : Line Call) (c : Call) → InTurn (cs ▸ c) → (mark c ≡ 0) ↔ (Transfer c.lent → ⊥)
  -- What `book` promises leaves one reply. The answer has what was read, and only a booking changes the record.
  pub settled : (b : Bookings) (l : Lent) (r s : Reply) → Reached b → Books b l r → Books b l s → r ≡ s
  pub answer : (c : Call) → c.reply.booked.transport ≡ reading_of c.lent
  pub unchanged : (cs : Line Call) (c : Call) → InTurn (cs ▸ c) → (mark c ≡ 1 → ⊥) → after (cs ▸ c) ≡ after cs
  -- The record is one that the next call may be handed, and a function of the list of transfers: equal lists give equal
  -- records.
  pub reached : (cs : Line Call) → InTurn cs → Reached (after cs)
  pub kept : (cs : Line Call) → InTurn cs → after cs ≡ bookings_at (transfers cs)
  pub equal : (cs ds : Line Call) → InTurn cs → InTurn ds → transfers cs ≡ transfers ds → after cs ≡ after ds
  pub count : (cs : Line Call) → InTurn cs → ((after cs).count ≡ length (last32 (marked cs))) × ((after cs).count ≤ 32)
  -- What was marked 1 is what is booked of the transfers, before and since: so all that is shown over transfers is
  -- shown of the marks.
  pub marks : (cs : Line Call) → InTurn cs → marked cs ≡ booked (transfers cs)
  pub marks_since : (cs ds : Line Call) → InTurn (cs ⧺ ds) → marked ds ≡ since (transfers cs) (transfers ds)
  -- A pair is booked at its first transfer.
  pub first : (cs : Line Call) (c : Call) → InTurn (cs ▸ c) → Transfer c.lent → (On (pair c) (transfers cs) → ⊥)
      → mark c ≡ 1
  -- A transfer that was booked and is heard again is marked "again", as long as fewer than 32 were booked between; and
  -- however often it is heard until 32 others were booked, it is booked exactly once.
  pub heard_again : (cs ds : Line Call) (c d : Call) → InTurn (cs ▸ c ⧺ ds ▸ d) → mark c ≡ 1
      → Transfer d.lent → pair d ≡ pair c → length (marked ds) < 32 → mark d ≡ 2
  pub once : (cs ds : Line Call) (c : Call) → InTurn (cs ▸ c ⧺ ds) → mark c ≡ 1 → length (marked ds) ≤ 32
      → times (pair c) (marked (start ▸ c ⧺ ds)) ≡ 1
