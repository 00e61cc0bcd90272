-- Request 04 holds. Assumes nothing.
use mathlib.Core.Path.{◌≡◌, refl, sym, ap, ap₂, ◌∙◌}
use mathlib.Core.Logic.{◌↔◌}
use mathlib.Core.Bool.{Bool, true, false, cond}
use mathlib.Core.List.{List, ◌∷◌}
use Prim.Native.Nat.{ℕ, zero, suc, ◌*◌, ◌^◌, ◌≤◌}
use native.Mathlib.Omega.{arith}
use lib.Dec.{eqb, ltb}
use lib.ListN.{length, take, drop}
use borrow.Author.Tests.{eqb-true}
use Rattle.bits.specs.Bits.{bits_of}
use Rattle.blocks.specs.Faults.{unless, first_of}
use Rattle.store.specs.Store.{handed}
use Rattle.history.specs.Line.{Line, ◌▸◌, ◌⧺◌}
use Rattle.history.proofs.OpenRun.{and_true}
use Rattle.transport.specs.Layouts.{ack_of, per, at}
use Rattle.transport.specs.Elements.{shape_of}
use Rattle.transport.specs.Reading.{sdu_bits, transport_of, refused_transport, answered, read_of}
use Rattle.transport.specs.Building.{shape_for, built_bits, bits_for, build_fault, built_as, sdu_of, out_of}
use Rattle.transport.specs.Well.{ReadsWell, user_in, Exact, Buildable}
use Rattle.transport.specs.declared.Transport.{Transport}
use Rattle.transport.specs.declared.Sdu.{Sdu}
use Rattle.transport.proofs.ElementLaws.{length_sdu}
use Rattle.transport.proofs.RoundTripLaws as trip
use Rattle.transport.proofs.WellLaws as well
use Rattle.transport.proofs.RangeLaws.{built_range, range_built}
use Rattle.transport.proofs.RebuildLaws as rebuild
use Rattle.bookings.specs.Pairs.{Pair, In, last32, since, IsBooked}
use Rattle.bookings.specs.Kept.{record_of}
use Rattle.bookings.specs.Book.{Lent, reading_of, Transfer}
use Rattle.bookings.specs.Calls.{Call, mark, pair, InTurn, marked, transfers}
use Rattle.bookings.proofs.CallLaws.{earlier_in_turn, transfers_append}
use Rattle.bookings.proofs.IndexHolds.{over_transfers, over_calls}
use Rattle.demands.specs.Demand1.{Settles}
use Rattle.demands.proofs.Demand1Holds.{settles}
use Rattle.hires.specs.Req04.{Reads, found, read_rules, bits_read, flag_read, shape_read}
use Rattle.hires.specs.Req04.{Builds, build_again, answer, after, build_rules}
use Rattle.hires.specs.Req04.{user_bits, built, back, book_rules, Req04}

-- ---- refusals

answered_fault : (n : ℕ) (t : Transport) → t.fault ≡ 0 → (answered n t).fault ≡ n
answered_fault zero t e = e
answered_fault (suc n) t e = refl

read_settles : (r : Reads) → Settles (read_rules r) (found r).fault (λ f. found r ≡ refused_transport f)
unfolding read_of
read_settles r =
    let b = sdu_bits r.n r.sdu in
    settles (read_rules r) (answered_fault (first_of (read_rules r)) (transport_of (shape_of
    (ack_of r.carrier) b) b) refl)
    (λ n e. rw e refl)

built_fault : (n bits : ℕ) → (built_as n bits).fault ≡ n
built_fault zero bits = refl
built_fault (suc n) bits = refl

build_settles : (b : Builds)
    → Settles (build_rules b) (answer b).fault (λ f. (answer b ≡ record { fault = f; bits = 0 }) × (after b ≡ b.out))
unfolding sdu_of out_of build_fault
build_settles b =
    settles (build_rules b) (built_fault (first_of (build_rules b)) (bits_for b.carrier b.flag b.message b.n))
    (λ n e. (rw e refl, rw e refl))

-- `book`: a source that is too large, and then the rules of reading
abbrev given : Lent → Transport
given l = read_of l.fields.message l.fields.elements l.n l.sdu

abbrev lent_reads : Lent → Reads
lent_reads l = record { carrier = l.fields.message; elements = l.fields.elements; n = l.n; sdu = l.sdu }

reading_fault : (l : Lent) (d : Bool)
    → (cond d (given l) (refused_transport 13)).fault ≡ first_of (unless d 13 ∷ read_rules (lent_reads l))
reading_fault l true = (read_settles (lent_reads l)).first
reading_fault l false = refl

reading_refused : (l : Lent) (d : Bool) (n : ℕ) → first_of (unless d 13 ∷ read_rules (lent_reads l)) ≡ suc n
    → cond d (given l) (refused_transport 13) ≡ refused_transport (suc n)
reading_refused l true n e = let s = read_settles (lent_reads l) in s.refused n (s.first ∙ e)
reading_refused l false n e = ap refused_transport e

fault_read : (l : Lent) → (reading_of l).fault ≡ first_of (book_rules l)
unfolding reading_of
fault_read l = reading_fault l (ltb l.fields.source.ssi (2 ^ 24))

refused_read : (l : Lent) (n : ℕ) → first_of (book_rules l) ≡ suc n → reading_of l ≡ refused_transport (suc n)
unfolding reading_of
refused_read l n e = reading_refused l (ltb l.fields.source.ssi (2 ^ 24)) n e

no_transfer : (l : Lent) (n : ℕ) → first_of (book_rules l) ≡ suc n → Transfer l → ⊥
no_transfer l n e t =
    let r = reading_of l in
    let f : r.fault ≡ 0 = eqb-true r.fault 0 (and_true (eqb r.fault 0) (eqb r.message.kind 1) t).0 in
    let z : suc n ≡ 0 = sym e ∙ sym (fault_read l) ∙ f in
    omega arith

book_settles : (c : Call)
    → Settles (book_rules c.lent) c.reply.booked.transport.fault
    (λ f. (c.reply.booked ≡ record { mark = 0; transport = refused_transport f }) × (c.reply.bookings ≡ c.before))
book_settles c =
    let l = c.lent in
    let t = c.books.transport in
    settles (book_rules l) (ap (λ (x : Transport). x.fault) t ∙ fault_read l)
    (λ n e. let o = c.books.other (no_transfer l n e) in
    (ap₂ (λ (m : ℕ) (x : Transport). record { mark = m; transport = x }) o.0 (t ∙ refused_read l n e), o.1))

-- ---- what is not refused

reads_well : (r : Reads)
    → ((found r).fault ≡ 0) ↔ ((r.n ≤ 8 * length r.sdu) × ReadsWell r.carrier (flag_read r) (bits_read r))
reads_well r = (
  λ e. (
    well.read_lent r.carrier r.elements r.n r.sdu e,
    well.reads_well r.carrier r.elements r.n r.sdu e,
  ),
  λ w. ap (λ (t : Transport). t.fault) (well.well_reads r.carrier r.elements r.n r.sdu w.0 w.1),
)

buildable : (b : Builds)
    → ((answer b).fault ≡ 0)
    ↔ Buildable b.carrier b.flag b.message b.n (length b.user) (length b.out)
buildable b = (
  built_range b.carrier b.flag b.message b.n (length b.user) (length b.out),
  λ g. ap (λ (x : Sdu). x.fault) (range_built g),
)

-- ---- what is built

-- an ack and a short report have no user data
user_when : (kind n f : ℕ) (sdu u : List Bool) → 1 ≤ kind → kind ≤ 4 → (3 ≤ kind → n ≡ 0)
    → take n (drop f sdu) ≡ take n u → take (per kind n n 0 0) (drop (per kind f f 0 0) sdu) ≡ take n u
user_when kind n f sdu u l h k e =
    well.by_kind
    (λ (k : ℕ). (3 ≤ k → n ≡ 0) → take (per k n n 0 0) (drop (per k f f 0 0) sdu) ≡ take n u) (λ i. e) (λ i. e)
    (λ i. none (i (omega arith))) (λ i. none (i (omega arith))) kind l h k
  where
    none : n ≡ 0 → take 0 (drop 0 sdu) ≡ take n u
    none z = rw z refl

module _ (b : Builds) (t : (answer b).fault ≡ 0) where
  shows : Buildable b.carrier b.flag b.message b.n (length b.user) (length b.out)
  shows = trip.build_shows b.carrier b.flag b.message b.n b.user b.out t

  writes : (answer b ≡ record { fault = 0; bits = length (built b) }) × (after b ≡ handed (built b) b.out)
      × (length (built b) ≤ 8 * length b.out)
  writes = (
    trip.sdu_answer b.carrier b.flag b.message b.n b.user b.out t,
    trip.sdu_output b.carrier b.flag b.message b.n b.user b.out t,
    trip.sdu_fits b.carrier b.flag b.message b.n b.user b.out t,
  )

  user_back : user_in (back b) (sdu_bits (answer b).bits (after b)) ≡ user_bits b
  user_back =
      let f = at 20 (shape_for (ack_of b.carrier) b.message) in
      let c = shows.least in
      ap (user_in (back b)) (trip.sdu_out b.carrier b.flag b.message b.n b.user b.out t)
      ∙ user_when b.message.kind b.n f (built b) (bits_of b.user) (omega arith) shows.most shows.none
      (trip.user_there b.carrier b.flag b.message b.n b.user b.out t)

  all_lent : length (user_bits b) ≡ b.n
  all_lent = length_sdu b.n b.user shows.user

different : (b c : Builds) → (answer b).fault ≡ 0 → (answer c).fault ≡ 0 → b.carrier ≡ c.carrier → b.flag ≡ c.flag
    → built b ≡ built c → (b.message ≡ c.message) × (user_bits b ≡ user_bits c)
different b c t u e f same =
    let k : Buildable b.carrier b.flag c.message c.n (length c.user) (length c.out) =
    rw (e, f) (shows c u) in
    trip.different (shows b t) k (user_bits b) (user_bits c) (all_lent b t) (all_lent c u)
    (same ∙ sym (ap₂ (λ (x y : ℕ). built_bits x y c.message (user_bits c)) e f))

rebuilds_only : (r : Reads) → (found r).fault ≡ 0 → (user out : List ℕ)
    → take (found r).bits (bits_of user) ≡ user_in (found r) (bits_read r)
    → let b = build_again r user out in
    (answer b).fault ≡ 0 → built b ≡ bits_read r → Exact (flag_read r) (shape_read r) (bits_read r)
rebuilds_only r e user out u f s =
    rebuild.rebuilt_only r.carrier r.elements r.n r.sdu e (length user) (length out) f
    (ap (built_bits r.carrier (flag_read r) (found r).message) (sym u) ∙ s)

-- ---- what is booked

-- after its last booking
module _ (cs ds : Line Call) (c d : Call) (h : InTurn (cs ▸ c ⧺ ds ▸ d)) (m : mark c ≡ 1) (t : Transfer d.lent)
    (e : pair d ≡ pair c) (n : In (pair c) (marked ds) → ⊥) where
  abbrev p : Pair
  p = pair c

  before : InTurn (cs ▸ c)
  before = earlier_in_turn (cs ▸ c) ds h.0

  was : Transfer c.lent × (In p (last32 (marked cs)) → ⊥)
  was = (over_calls.books cs c before).0 m

  booked_then : IsBooked (transfers cs) p
  booked_then = rw (over_calls.marks cs before.0) at was.1

  to_here : transfers (cs ▸ c ⧺ ds) ≡ transfers cs ▸ p ⧺ transfers ds
  to_here = transfers_append (cs ▸ c) ds ∙ ap (λ (x : Line Pair). x ⧺ transfers ds) (rw was.0 refl)

  since_then : marked ds ≡ since (transfers cs ▸ p) (transfers ds)
  since_then =
      over_calls.marks_since (cs ▸ c) ds h.0
      ∙ ap (λ (x : Line Pair). since x (transfers ds)) (rw was.0 refl)

  exact : IsBooked (transfers cs ▸ p ⧺ transfers ds) p ↔ (32 ≤ length (marked ds))
  exact = rw since_then (over_transfers.later (transfers cs) (transfers ds) p booked_then (rw since_then at n))

  now : (mark d ≡ 1) ↔ (Transfer d.lent × IsBooked (transfers cs ▸ p ⧺ transfers ds) p)
  now = rw (over_calls.marks (cs ▸ c ⧺ ds) h.0, to_here, e) at (over_calls.books (cs ▸ c ⧺ ds) d h)

  later : (mark d ≡ 1) ↔ (32 ≤ length (marked ds))
  later = (λ y. exact.0 (now.0 y).1, λ l. now.1 (t, exact.1 l))

pub req04 : Req04
req04 =
    record {
      reads = read_settles;
      reads_well = reads_well;
      accounts = λ r e. rebuild.accounts r.carrier r.elements r.n r.sdu e;
      builds = build_settles;
      buildable = buildable;
      writes = writes;
      reads_back = λ b t elements e.
          trip.reads_back b.carrier b.flag b.message b.n b.user b.out t elements e;
      user_back = user_back;
      rebuilds = λ r e x. rebuild.rebuilt r.carrier r.elements r.n r.sdu e x;
      rebuilds_only = rebuilds_only;
      different = different;
      refuses = book_settles;
      read = λ c. c.books.transport;
      nothing = over_calls.nothing;
      unchanged = λ cs c h n. over_calls.unchanged cs c h n ∙ sym h.1;
      booked = over_calls.books;
      again = over_calls.again;
      index = λ cs h. over_calls.kept cs h ∙ ap record_of (sym (over_calls.marks cs h));
      first = over_calls.first;
      later = later;
      once = λ cs h ps l i p o. rw (over_calls.marks cs h) (over_transfers.once (transfers cs) ps l i p o);
    }
