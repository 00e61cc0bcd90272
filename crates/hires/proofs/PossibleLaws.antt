-- Any list of accepted reports can be heard by a program. Assumes nothing.
use mathlib.Core.Path.{◌≡◌, refl, ap, ◌∙◌}
use mathlib.Core.Logic.{◌⊎◌, inl, inr}
use mathlib.Core.Bool.{Bool, true, false, cond}
use mathlib.Core.List.{List}
use Prim.Native.Nat.{ℕ, zero, suc, ◌*◌, ◌+◌, ◌^◌, ◌<◌}
use native.Mathlib.Omega.{arith}
use lib.Dec.{eqb, ltb}
use lib.ListN.{length, drop, replicate, length-replicate}
use lib.Pow.{pow_pos}
use borrow.Author.Tests.{eqb-true, eqb-false}
use Rattle.bits.specs.Bits.{field}
use Rattle.bits.proofs.Numbers.{num_take_lt}
use Rattle.blocks.specs.Faults.{first_of}
use Rattle.history.specs.Line.{Line, start, ◌▸◌, ◌⧺◌, Every}
use Rattle.history.specs.History.{Copies}
use Rattle.history.proofs.OpenRun.{and_true}
use Rattle.reports.specs.Lent.{Lent, report_rules, for_unit}
use Rattle.reports.specs.Units.{settings_fit}
use Rattle.reports.specs.declared.unit.Settings.{Settings}
use Rattle.receiver.specs.View.{fresh_of}
use Rattle.receiver.specs.Reached.{reports, refused_with, Accepted}
use Rattle.receiver.specs.declared.Receiver.{Receiver}
use Rattle.receiver.proofs.ReplyLaws.{replies}
use Rattle.demands.proofs.Demand3Holds.{leads}
use Rattle.transport.specs.Layouts.{ack_of, at}
use Rattle.transport.specs.Elements.{shape_of}
use Rattle.transport.specs.Reading.{sdu_bits, read_checks, transport_of, refused_transport, answered, read_of}
use Rattle.transport.specs.declared.Transport.{Transport}
use Rattle.bookings.specs.Kept.{Reached, entered_in}
use Rattle.bookings.specs.Book as book
use Rattle.bookings.specs.Book.{reading_of, is_transfer, Books}
use Rattle.bookings.specs.Calls.{Call, after, InTurn}
use Rattle.bookings.specs.declared.Bookings.{Bookings}
use Rattle.bookings.specs.declared.Reply.{Reply}
use Rattle.bookings.proofs.BookLaws.{other_books, transfer_books}
use Rattle.bookings.proofs.IndexHolds.{over_calls}
use Rattle.ends.specs.EndToEnd as sent
use Rattle.ends.specs.EndToEnd.{Message, Build, k, header_lent, header_report, Sent}
use Rattle.ends.proofs.EndToEndHolds.{end_to_end}
use Rattle.hires.specs.June.{Hire, message, Arrives}
use Rattle.hires.specs.Program.{Hearing, HandsOver, handed_on_to, Step, quiet, books}
use Rattle.hires.specs.Program.{hearing, accepted, calls, receiver_after, Program}
use Rattle.hires.proofs.ProgramLaws.{hears_calls}

-- ---- `book` has a reply to whatever it is lent

element_small : (t : Bool) (place w : ℕ) (b : List Bool) → cond t 0 (field place w b) < 2 ^ w
element_small true place w b = pow_pos w
element_small false place w b = num_take_lt w (drop place b)

answered_small : (f : ℕ) (t : Transport) → t.message.reference < 2 ^ 8 → (answered f t).message.reference < 2 ^ 8
answered_small zero t h = h
answered_small (suc f) t h = omega arith

read_small : (carrier elements n : ℕ) (sdu : List ℕ) → (read_of carrier elements n sdu).message.reference < 2 ^ 8
unfolding read_of
read_small carrier elements n sdu =
    let b = sdu_bits n sdu in
    let q = shape_of (ack_of carrier) b in
    answered_small (first_of (read_checks carrier elements n sdu)) (transport_of q b)
    (element_small (ltb (length b) (at 16 q + 8)) (at 16 q) 8 b)

given_small : (t : Bool) (r : Transport) → r.message.reference < 2 ^ 8
    → (cond t r (refused_transport 13)).message.reference < 2 ^ 8
given_small true r h = h
given_small false r h = omega arith

reference_small : (l : book.Lent) → (reading_of l).message.reference < 2 ^ 8
unfolding reading_of
reference_small l =
    let g = l.fields in
    given_small (ltb g.source.ssi (2 ^ 24)) (read_of g.message g.elements l.n l.sdu)
    (read_small g.message g.elements l.n l.sdu)

book_when : (b : Bookings) (l : book.Lent) → Reached b → (t : Bool) → is_transfer l ≡ t → (r : Reply) × Books b l r
book_when b l k true e =
    let r = reading_of l in
    let a = and_true (eqb r.fault 0) (eqb r.message.kind 1) e in
    let x = entered_in b (l.fields.source.ssi * 256 + r.message.reference) in
    let f = eqb-true r.fault 0 a.0 in
    let one = eqb-true r.message.kind 1 a.1 in
    (_, (transfer_books b l r x k refl f one (reference_small l) refl).1)
book_when b l k false e = (_, (other_books b l (reading_of l) k refl e).1)

bookable : (b : Bookings) (l : book.Lent) → Reached b → (r : Reply) × Books b l r
bookable b l k = book_when b l k (is_transfer l) refl

-- ---- one report more

-- a buffer that is long enough
abbrev buffer : List ℕ
buffer = replicate 512 0

taken : (l : Lent) → Accepted l → refused_with l buffer ≡ 0
taken l a =
    ap (λ (n : ℕ). first_of (report_rules l.frame l.slot l.kind (length l.blocks) n))
    (length-replicate {A = ℕ} 512 0) ∙ a

-- steps after these, with these reports
record Heard (s : Settings) (xs : Line Step) (ls : Line Lent) : Type 0 where
  steps : Line Step
  program : Program s (xs ⧺ steps)
  reports : accepted steps ≡ ls

module _ {s : Settings} {xs : Line Step} {ls : Line Lent} (h : Heard s xs ls) (l : Lent) (a : Accepted l) where
  abbrev so_far : Line Step
  so_far = xs ⧺ h.steps

  abbrev cs : Line Call
  cs = calls so_far

  abbrev before : Receiver
  before = receiver_after h.program.fresh.receiver so_far

  abbrev f : ℕ
  f = refused_with l buffer

  hearing_one : Hearing
  hearing_one =
      let k = leads (hears_calls h.program) in
      let r = replies (record { settings = s; heard = accepted so_far; leads = k }) l buffer in
      record { before = before; report = l; reply = r.reply; old = buffer; new = r.new; hears = r.hears }

  -- the message that it may hand over goes to `book`
  record Goes : Type 0 where
    step : Step
    hears : hearing step ≡ hearing_one
    books : InTurn (calls (so_far ▸ step))

  calling : HandsOver hearing_one → Goes
  calling y =
      let b = bookable (after cs) (handed_on_to hearing_one) (over_calls.reached cs h.program.books) in
      let c : Call = record { before = after cs; lent = handed_on_to hearing_one; reply = b.0; books = b.1 } in
      record { step = books hearing_one y c refl; hears = refl; books = (h.program.books, refl) }

  going : (d e : Bool) → let o = hearing_one.reply.answer.outcome in eqb o 1 ≡ d → eqb o 2 ≡ e → Goes
  going true e p q = calling (inl (eqb-true hearing_one.reply.answer.outcome 1 p))
  going false true p q = calling (inr (eqb-true hearing_one.reply.answer.outcome 2 q))
  going false false p q =
      let o = hearing_one.reply.answer.outcome in
      record {
        step = quiet hearing_one (neither (eqb-false o 1 p) (eqb-false o 2 q));
        hears = refl;
        books = h.program.books;
      }
    where
      neither : {n : ℕ} → (n ≡ 1 → ⊥) → (n ≡ 2 → ⊥) → (n ≡ 1) ⊎ (n ≡ 2) → ⊥
      neither a b (inl e) = a e
      neither a b (inr e) = b e

  gone : Goes
  gone = let o = hearing_one.reply.answer.outcome in going (eqb o 1) (eqb o 2) refl refl

  one_more : Heard s xs (ls ▸ l)
  unfolding hearing_one
  one_more =
      let p = h.program in
      let g = gone in
      let earlier = accepted h.steps in
      record {
        steps = h.steps ▸ g.step;
        program = record {
          individual = p.individual;
          group = p.group;
          mni = p.mni;
          fresh = p.fresh;
          begun = p.begun;
          unit = p.unit;
          hears = (p.hears, ap (λ (x : Hearing). x.before) g.hears);
          books = g.books;
        };
        reports =
            ap (λ (x : Hearing). cond (eqb (refused_with x.report x.old) 0) (earlier ▸ x.report) earlier)
            g.hears
            ∙ ap (λ (n : ℕ). cond (eqb n 0) (earlier ▸ l) earlier) (taken l a)
            ∙ ap (λ (x : Line Lent). x ▸ l) h.reports;
      }

-- ---- any reports

pub begun : (individual group mni : ℕ) → settings_fit individual group mni ≡ true
    → Program (record { individual = individual; group = group; mni = mni }) start
begun individual group mni fit =
    record {
      individual = individual;
      group = group;
      mni = mni;
      fresh = fresh_of individual group mni;
      begun = refl;
      unit = rw fit refl;
      hears = tt;
      books = tt;
    }

module _ (s : Settings) (xs : Line Step) (p : Program s xs) where
  heard : (ls : Line Lent) → Every Accepted ls → Heard s xs ls
  heard start a = record { steps = start; program = p; reports = refl }
  heard (ls ▸ l) a = one_more (heard ls a.0) l a.1

  pub any : (ls : Line Lent) → Every Accepted ls → (ys : Line Step) × Program s (xs ⧺ ys) × (accepted ys ≡ ls)
  any ls a = let h = heard ls a in (h.steps, h.program, h.reports)

-- ---- a hire

module _ (s : Settings) (m : Message) (b : Build m) where
  all_accepted : {ls : Line Lent} {i : ℕ} → Sent s m b ls i → Every Accepted ls
  all_accepted sent.first = tt
  all_accepted (sent.silence q t g d) = (all_accepted t, end_to_end.accepted s m b (sent.silence q t g d))
  all_accepted (sent.repeat b' t g c) = (all_accepted t, end_to_end.accepted s m b (sent.repeat b' t g c))
  all_accepted (sent.block t h g) = (all_accepted t, end_to_end.accepted s m b (sent.block t h g))

every_append : (xs ys : Line Lent) → Every Accepted xs → Every Accepted ys → Every Accepted (xs ⧺ ys)
every_append xs start a b = a
every_append xs (ys ▸ y) a b = (every_append xs ys a b.0, b.1)

pub possible : (s : Settings) (before : Line Step) → Program s before → (h : Hire) (b : Build (message h))
    → (b.sync.slot ≡ 0) ⊎ (b.sync.slot ≡ 2) → for_unit s h.fields ≡ true
    → (k (message h) ≡ 0 → Copies (reports s (accepted before)) (header_report s (message h) b) → ⊥)
    → (xs : Line Step) × Program s (before ⧺ xs) × Arrives s before h xs
possible s earlier p h b slot w n =
    let m = message h in
    let t = end_to_end.possible s m b in
    let l = header_lent m b in
    let a : Every Accepted (start ▸ l) = (tt, end_to_end.header_accepted m b slot) in
    let y = any s earlier p (start ▸ l ⧺ t.0) (every_append (start ▸ l) t.0 a (all_accepted s m b t.1)) in
    (y.0, y.1, record { build = b; for_us = w; rest = t.0; heard = y.2; whole = t.1; no_copy = n })
