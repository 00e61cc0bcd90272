-- What is shown of the index. Assumes nothing.
use mathlib.Core.Path.{◌≡◌, refl, sym, ap, ◌∙◌}
use Prim.Native.Nat.{◌≤◌, ◌<◌}
use native.Mathlib.Omega.{arith}
use lib.ListN.{length, length-take}
use Rattle.history.specs.Line.{Line, start, ◌▸◌, ◌⧺◌}
use Rattle.history.proofs.Lines.{⧺-assoc}
use Rattle.bookings.specs.Pairs.{Pair, last32, booked, since, IsAgain, IsBooked, times}
use Rattle.bookings.specs.Kept.{record_of, bookings_at}
use Rattle.bookings.specs.Book.{Transfer}
use Rattle.bookings.specs.Calls.{Call, mark, pair, after, InTurn, marked, transfers}
use Rattle.bookings.specs.Index.{OverTransfers, OverCalls}
use Rattle.bookings.proofs.BookedLaws.{booked_new, booked_again, first_books, since_is, stays, stays_booked}
use Rattle.bookings.proofs.BookedLaws.{since_again, books_again, all_different, once_each, once_heard}
use Rattle.bookings.proofs.CallLaws.{earlier_in_turn, transfers_append, leads, leads_before, marks_since, marks}
use Rattle.bookings.proofs.CallLaws.{booked_or_again, books_is, again_is, nothing_is, unchanged_is, one_reply}

heard_again_is : (ts us : Line Pair) (p : Pair) → IsBooked ts p → length (since (ts ▸ p) us) < 32
    → IsAgain (ts ▸ p ⧺ us) p × (times p (since ts (start ▸ p ⧺ us ▸ p)) ≡ 1)
heard_again_is ts us p n l =
    let a = stays_booked ts us p n l in
    (a, once_heard ts (us ▸ p) p n (rw (since_again (ts ▸ p) us p a) (omega arith)))

count_is : (ts : Line Pair) → (bookings_at ts).count ≡ length (last32 (booked ts))
unfolding record_of
count_is ts = sym (length-take 32 (booked ts))

pub over_transfers : OverTransfers
over_transfers =
    record {
      either = booked_or_again;
      books = booked_new;
      again = λ ts p h. (booked_again ts p h, ap record_of (booked_again ts p h));
      first = first_books;
      later = books_again;
      different = all_different;
      once = once_each;
      stays = stays;
      heard_again = heard_again_is;
      further = since_is;
      count = count_is;
    }

-- ---- over calls

count_on : (cs : Line Call) → InTurn cs → ((after cs).count ≡ length (last32 (marked cs))) × ((after cs).count ≤ 32)
count_on cs h =
    let e : (after cs).count ≡ length (last32 (marked cs)) =
    rw ((leads cs h).there, marks cs h) (count_is (transfers cs))
    in
    (e, omega (arith, length-take 32 (marked cs)))

-- since a call that booked
module _ (cs ds : Line Call) (c : Call) (h : InTurn (cs ▸ c ⧺ ds)) (m : mark c ≡ 1) where
  was_booked : Transfer c.lent × IsBooked (transfers cs) (pair c)
  was_booked = (books_is c (transfers cs) (leads_before cs c (earlier_in_turn (cs ▸ c) ds h))).0 m

  transfers_from : (es : Line Call) → transfers (es ▸ c) ≡ transfers es ▸ pair c
  transfers_from es = rw was_booked.0 refl

  marked_from : marked ds ≡ since (transfers cs ▸ pair c) (transfers ds)
  marked_from = marks_since (cs ▸ c) ds h ∙ rw (transfers_from cs) refl

  once_on : length (marked ds) ≤ 32 → times (pair c) (marked (start ▸ c ⧺ ds)) ≡ 1
  once_on l =
      let all = marks_since cs (start ▸ c ⧺ ds) (rw (⧺-assoc cs (start ▸ c) ds) h) in
      rw (all, transfers_append (start ▸ c) ds, transfers_from start)
      (once_heard (transfers cs) (transfers ds) (pair c) was_booked.1 (rw marked_from at l))

  heard_again_on : (d : Call) → d.before ≡ after (cs ▸ c ⧺ ds) → Transfer d.lent → pair d ≡ pair c
      → length (marked ds) < 32 → mark d ≡ 2
  heard_again_on d e t p l =
      let a = stays_booked (transfers cs) (transfers ds) (pair c) was_booked.1 (rw marked_from at l) in
      let y : IsAgain (transfers (cs ▸ c ⧺ ds)) (pair d) = rw (transfers_append (cs ▸ c) ds, transfers_from cs, p) a in
      (again_is d (transfers (cs ▸ c ⧺ ds)) (leads_before (cs ▸ c ⧺ ds) d (h, e))).1 (t, y)

pub over_calls : OverCalls
over_calls =
    record {
      books = λ cs c h. rw (marks cs h.0) (books_is c (transfers cs) (leads_before cs c h));
      again = λ cs c h. rw (marks cs h.0) (again_is c (transfers cs) (leads_before cs c h));
      nothing = λ cs c h. nothing_is c (transfers cs) (leads_before cs c h);
      settled = one_reply;
      answer = λ c. c.books.transport;
      unchanged = λ cs c h m. unchanged_is c (transfers cs) (leads_before cs c h) m ∙ h.1;
      reached = λ cs h. record { transfers = transfers cs; leads = leads cs h };
      kept = λ cs h. (leads cs h).there;
      equal = λ cs ds g h e. (leads cs g).there ∙ ap bookings_at e ∙ sym (leads ds h).there;
      count = count_on;
      marks = marks;
      marks_since = marks_since;
      first = λ cs c h t n.
          (books_is c (transfers cs) (leads_before cs c h)).1 (t, first_books (transfers cs) (pair c) n);
      heard_again = λ cs ds c d h m t p l. heard_again_on cs ds c h.0 m d h.1 t p l;
      once = once_on;
    }
