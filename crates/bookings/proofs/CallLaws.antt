-- The laws of a program's calls: what was marked is what is booked of the transfers. Assumes nothing.
use mathlib.Core.Path.{◌≡◌, refl, sym, ap, ◌∙◌}
use mathlib.Core.Logic.{◌↔◌, ◌⊎◌, inl, inr}
use mathlib.Core.Bool.{Bool, true, false, cond}
use mathlib.Core.List.{List, ◌∷◌, append-nil}
use Prim.Native.Nat.{ℕ}
use native.Mathlib.Omega.{arith}
use lib.Dec.{eqb}
use Rattle.history.specs.Line.{Line, start, ◌▸◌, ◌⧺◌}
use Rattle.bookings.specs.Pairs.{Pair, among, last32, entering, booked, since, IsBooked, IsAgain}
use Rattle.bookings.specs.Kept.{record_of, Leads, Reached}
use Rattle.bookings.specs.Book.{Lent, is_transfer, Transfer, pair_of, Enters, Books}
use Rattle.bookings.specs.Calls.{Call, mark, pair, after, InTurn, marked, transfers}
use Rattle.bookings.specs.declared.Bookings.{Bookings}
use Rattle.bookings.specs.declared.Reply.{Reply}
use Rattle.bookings.proofs.PairLaws.{not_both, among_true, among_false}
use Rattle.bookings.proofs.BookedLaws.{booked_again, since_is}
use Rattle.bookings.proofs.KeptLaws.{fresh_leads}

-- a test that is not true
not-true : (t : Bool) → t ≡ false → t ≡ true → ⊥
not-true t f y = not_both t y f

-- ---- the calls before the last

pub earlier_in_turn : (cs ds : Line Call) → InTurn (cs ⧺ ds) → InTurn cs
earlier_in_turn cs start h = h
earlier_in_turn cs (ds ▸ c) h = earlier_in_turn cs ds h.0

transfers_more : (t : Bool) (p : Pair) (xs ys zs : Line Pair) → xs ≡ ys ⧺ zs
    → cond t (xs ▸ p) xs ≡ ys ⧺ cond t (zs ▸ p) zs
transfers_more true p xs ys zs e = ap (λ (l : Line Pair). l ▸ p) e
transfers_more false p xs ys zs e = e

pub transfers_append : (cs ds : Line Call) → transfers (cs ⧺ ds) ≡ transfers cs ⧺ transfers ds
transfers_append cs start = refl
transfers_append cs (ds ▸ c) =
    let e = transfers_append cs ds in
    transfers_more (is_transfer c.lent) (pair c) (transfers (cs ⧺ ds)) (transfers cs) (transfers ds) e

-- ---- the record is the one of the transfers

leads_split : (c : Call) (ts : Line Pair) (t : Bool) → is_transfer c.lent ≡ t → Leads ts c.before
    → Leads (cond t (ts ▸ pair c) ts) c.reply.bookings
leads_split c ts true e l = (c.books.transfer e ts l).leads
leads_split c ts false e l = rw (c.books.other (not-true (is_transfer c.lent) e)).1 l

pub leads : (cs : Line Call) → InTurn cs → Leads (transfers cs) (after cs)
leads start h = fresh_leads
leads (cs ▸ c) h = leads_split c (transfers cs) (is_transfer c.lent) refl (rw h.1 (leads cs h.0))

-- the last call is handed what the transfers before it lead to
pub leads_before : (cs : Line Call) (c : Call) → InTurn (cs ▸ c) → Leads (transfers cs) c.before
leads_before cs c h = rw h.1 (leads cs h.0)

-- ---- what was marked

marked_split : (ts : Line Pair) (p : Pair) (r : Reply) (ms : List Pair) (t : Bool) → among p (last32 (booked ts)) ≡ t
    → Enters ts p r
    → cond (eqb r.booked.mark 1) (p ∷ ms) ms ≡ entering t p ms
marked_split ts p r ms true e x = rw (x.again.1 (among_true p (last32 (booked ts)) e)) refl
marked_split ts p r ms false e x = rw (x.booked.1 (among_false p (last32 (booked ts)) e)) refl

since_split : (c : Call) (ts us : Line Pair) (ms : List Pair) (t : Bool) → is_transfer c.lent ≡ t
    → Leads (ts ⧺ us) c.before → ms ≡ since ts us
    → cond (eqb (mark c) 1) (pair c ∷ ms) ms ≡ since ts (cond t (us ▸ pair c) us)
since_split c ts us ms true e l m =
    let p = pair c in
    let b = among p (last32 (booked (ts ⧺ us))) in
    marked_split (ts ⧺ us) p c.reply ms b refl (c.books.transfer e (ts ⧺ us) l) ∙ ap (entering b p) m
since_split c ts us ms false e l m = rw (c.books.other (not-true (is_transfer c.lent) e)).0 m

pub marks_since : (cs ds : Line Call) → InTurn (cs ⧺ ds) → marked ds ≡ since (transfers cs) (transfers ds)
marks_since cs start h = refl
marks_since cs (ds ▸ c) h =
    let l = rw (transfers_append cs ds) at (leads_before (cs ⧺ ds) c h) in
    since_split c (transfers cs) (transfers ds) (marked ds) (is_transfer c.lent) refl l (marks_since cs ds h.0)

from_start : {A : Type 0} (l : Line A) → start ⧺ l ≡ l
from_start start = refl
from_start {A = A} (l ▸ x) = ap (λ (k : Line A). k ▸ x) (from_start l)

pub marks : (cs : Line Call) → InTurn cs → marked cs ≡ booked (transfers cs)
marks cs h =
    let ts = transfers cs in
    let e = rw (from_start ts, append-nil (since start ts)) at (since_is start ts) in
    marks_since start cs (rw (from_start cs) h) ∙ sym e

-- ---- the mark of a call

either_split : (ts : Line Pair) (p : Pair) (t : Bool) → among p (last32 (booked ts)) ≡ t → IsBooked ts p ⊎ IsAgain ts p
either_split ts p true e = inr (among_true p (last32 (booked ts)) e)
either_split ts p false e = inl (among_false p (last32 (booked ts)) e)

pub booked_or_again : (ts : Line Pair) (p : Pair) → IsBooked ts p ⊎ IsAgain ts p
booked_or_again ts p = either_split ts p (among p (last32 (booked ts))) refl

-- two replies that a call may give
one_mark : (ts : Line Pair) (p : Pair) (r s : Reply) → Enters ts p r → Enters ts p s → IsBooked ts p ⊎ IsAgain ts p
    → r.booked.mark ≡ s.booked.mark
one_mark ts p r s x y (inl n) = x.booked.1 n ∙ sym (y.booked.1 n)
one_mark ts p r s x y (inr a) = x.again.1 a ∙ sym (y.again.1 a)

one_split : (b : Bookings) (l : Lent) (r s : Reply) → Reached b → Books b l r → Books b l s → (t : Bool)
    → is_transfer l ≡ t → (r.booked.mark ≡ s.booked.mark) × (r.bookings ≡ s.bookings)
one_split b l r s h x y true e =
    let ts = h.transfers in
    let f = x.transfer e ts h.leads in
    let g = y.transfer e ts h.leads in
    (one_mark ts (pair_of l) r s f g (booked_or_again ts (pair_of l)), f.leads.there ∙ sym g.leads.there)
one_split b l r s h x y false e =
    let f = x.other (not-true (is_transfer l) e) in
    let g = y.other (not-true (is_transfer l) e) in
    (f.0 ∙ sym g.0, f.1 ∙ sym g.1)

pub one_reply : (b : Bookings) (l : Lent) (r s : Reply) → Reached b → Books b l r → Books b l s → r ≡ s
one_reply b l r s h x y =
    let e = one_split b l r s h x y (is_transfer l) refl in
    let t = x.transport ∙ sym y.transport in
    λ i. record { bookings = e.1 i; booked = record { mark = e.0 i; transport = t i } }

module _ (c : Call) (ts : Line Pair) (l : Leads ts c.before) where
  -- a mark other than 0 says that a transfer was read, and what it says of the transfer
  mark_split : (n : ℕ) (P : Type 0) → (n ≡ 0 → ⊥) → (Enters ts (pair c) c.reply → (mark c ≡ n) ↔ P) → (t : Bool)
      → is_transfer c.lent ≡ t → (mark c ≡ n) ↔ (Transfer c.lent × P)
  mark_split n P z f true e =
      let x = f (c.books.transfer e ts l) in
      (λ m. (e, x.0 m), λ y. x.1 y.1)
  mark_split n P z f false e =
      let never = not-true (is_transfer c.lent) e in
      (λ m. absurd (z (sym m ∙ (c.books.other never).0)), λ y. absurd (never y.0))

  pub books_is : (mark c ≡ 1) ↔ (Transfer c.lent × IsBooked ts (pair c))
  books_is = mark_split 1 (IsBooked ts (pair c)) (λ z. omega arith) (λ x. x.booked) (is_transfer c.lent) refl

  pub again_is : (mark c ≡ 2) ↔ (Transfer c.lent × IsAgain ts (pair c))
  again_is = mark_split 2 (IsAgain ts (pair c)) (λ z. omega arith) (λ x. x.again) (is_transfer c.lent) refl

  marked_some : Transfer c.lent → IsBooked ts (pair c) ⊎ IsAgain ts (pair c) → mark c ≡ 0 → ⊥
  marked_some t (inl n) z = let y = books_is.1 (t, n) in omega arith
  marked_some t (inr a) z = let y = again_is.1 (t, a) in omega arith

  pub nothing_is : (mark c ≡ 0) ↔ (Transfer c.lent → ⊥)
  nothing_is = (λ z t. marked_some t (booked_or_again ts (pair c)) z, λ n. (c.books.other n).0)

  same_record : (t : Bool) → is_transfer c.lent ≡ t → IsBooked ts (pair c) ⊎ IsAgain ts (pair c) → (mark c ≡ 1 → ⊥)
      → c.reply.bookings ≡ c.before
  same_record true e (inl n) m = absurd (m (books_is.1 (e, n)))
  same_record true e (inr a) m =
      (c.books.transfer e ts l).leads.there ∙ ap record_of (booked_again ts (pair c) a) ∙ sym l.there
  same_record false e s m = (c.books.other (not-true (is_transfer c.lent) e)).1

  pub unchanged_is : (mark c ≡ 1 → ⊥) → c.reply.bookings ≡ c.before
  unchanged_is m = same_record (is_transfer c.lent) refl (booked_or_again ts (pair c)) m
