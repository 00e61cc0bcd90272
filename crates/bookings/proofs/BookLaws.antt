-- The laws of a call: what it reads, and what it answers. Assumes nothing.
use mathlib.Core.Path.{◌≡◌, refl, sym}
use mathlib.Core.Bool.{Bool, true, false, cond}
use Prim.Native.Nat.{ℕ, ◌+◌, ◌*◌, ◌<◌, ◌^◌}
use native.Mathlib.Omega.{arith}
use lib.Dec.{ltb}
use borrow.Author.Tests.{eq-eqb, ne_eqb, lt-ltb, ltb-true}
use Rattle.transport.specs.Reading.{read_of, refused_transport}
use Rattle.transport.specs.declared.Transport.{Transport}
use Rattle.history.specs.Line.{Line, ◌▸◌}
use Rattle.bookings.specs.Pairs.{Pair}
use Rattle.bookings.specs.Kept.{Entered, number, InRange, Leads, Reached, entered_in}
use Rattle.bookings.specs.Book.{Lent, reading_of, is_transfer, Transfer, pair_of, reply_of, Enters, Books}
use Rattle.bookings.specs.declared.Bookings.{Bookings}
use Rattle.bookings.specs.declared.Reply.{Reply}
use Rattle.bookings.proofs.PairLaws.{not_both}
use Rattle.bookings.proofs.KeptLaws.{entered_leads, entered_marks}

-- what is not refused has a source in its range
source_split : (l : Lent) (t : Transport) (d : Bool) → ltb l.fields.source.ssi (2 ^ 24) ≡ d
    → (cond d t (refused_transport 13)).fault ≡ 0
    → l.fields.source.ssi < 2 ^ 24
source_split l t true e z = ltb-true l.fields.source.ssi (2 ^ 24) e
source_split l t false e z = absurd (omega arith)

pub source_fits : (l : Lent) → (reading_of l).fault ≡ 0 → l.fields.source.ssi < 2 ^ 24
unfolding reading_of
source_fits l z =
    let t = read_of l.fields.message l.fields.elements l.n l.sdu in
    source_split l t (ltb l.fields.source.ssi (2 ^ 24)) refl z

-- a source in its range: what `transport::read` gives
pub reading_in_range : (l : Lent) → l.fields.source.ssi < 2 ^ 24
    → reading_of l ≡ read_of l.fields.message l.fields.elements l.n l.sdu
unfolding reading_of
reading_in_range l h = rw (lt-ltb l.fields.source.ssi (2 ^ 24) h) refl

-- ---- whether it is a transfer

pub refused_none : (l : Lent) (t : Transport) → t ≡ reading_of l → (t.fault ≡ 0 → ⊥) → is_transfer l ≡ false
refused_none l t e f = rw (sym e, ne_eqb t.fault 0 f) refl

pub other_none : (l : Lent) (t : Transport) → t ≡ reading_of l → t.fault ≡ 0 → (t.message.kind ≡ 1 → ⊥)
    → is_transfer l ≡ false
other_none l t e f k = rw (sym e, eq-eqb t.fault 0 f, ne_eqb t.message.kind 1 k) refl

pub is_transfer_lem : (l : Lent) (t : Transport) → t ≡ reading_of l → t.fault ≡ 0 → t.message.kind ≡ 1 → Transfer l
is_transfer_lem l t e f k = rw (sym e, eq-eqb t.fault 0 f, eq-eqb t.message.kind 1 k) refl

-- ---- the reply

-- nothing to book
pub other_books : (b : Bookings) (l : Lent) (t : Transport) → Reached b → t ≡ reading_of l → is_transfer l ≡ false
    → Reached b × Books b l (reply_of b 0 t)
other_books b l t r e n =
    let never : Transfer l → ⊥ = λ y. not_both (is_transfer l) y n in
    (r, record { transport = e; transfer = λ y. absurd (never y); other = λ y. (refl, refl) })

-- a transfer is entered
enters : (ts : Line Pair) (b : Bookings) (p : Pair) (x : Entered) (t : Transport) → Leads ts b → InRange p
    → x ≡ entered_in b (number p) → Enters ts p (reply_of x.bookings x.mark t)
enters ts b p x t l h q =
    let m = entered_marks ts b p l h in
    rw q (record { booked = m.0; again = m.1; leads = entered_leads ts b p l h })

pub transfer_books : (b : Bookings) (l : Lent) (t : Transport) (x : Entered) → Reached b → t ≡ reading_of l
    → t.fault ≡ 0 → t.message.kind ≡ 1 → t.message.reference < 2 ^ 8
    → x ≡ entered_in b (l.fields.source.ssi * 256 + t.message.reference)
    → Reached x.bookings × Books b l (reply_of x.bookings x.mark t)
transfer_books b l t x r e f k h q =
    let p = pair_of l in
    let fits : InRange p = record { source = source_fits l (rw e at f); reference = rw e at h } in
    let entry : x ≡ entered_in b (number p) = rw e at q in
    let own = enters r.transfers b p x t r.leads fits entry in (
      record { transfers = r.transfers ▸ p; leads = own.leads },
      record {
        transport = e;
        transfer = λ y ts h. enters ts b p x t h fits entry;
        other = λ n. absurd (n (is_transfer_lem l t e f k));
      },
    )
