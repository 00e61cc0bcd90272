-- June's bill holds. Assumes nothing.
use mathlib.Core.Path.{◌≡◌, refl, sym, ap, ap₂, ◌∙◌}
use mathlib.Core.Logic.{◌⊎◌, inl, inr}
use mathlib.Core.Bool.{Bool, true, false, cond}
use mathlib.Core.List.{List, ◌∷◌, ◌++◌}
use Prim.Native.Nat.{ℕ}
use native.Mathlib.Omega.{arith}
use lib.Dec.{eqb}
use Rattle.blocks.specs.declared.header.Fields.{Fields}
use Rattle.history.specs.Line.{Line, start, ◌▸◌, ◌⧺◌, each}
use Rattle.history.proofs.Lines.{⧺-assoc}
use Rattle.reports.specs.declared.unit.Settings.{Settings}
use Rattle.transport.specs.declared.Transport.{Transport}
use Rattle.bookings.specs.Pairs.{Pair, booked, On, times, IsBooked, IsAgain}
use Rattle.bookings.specs.Book.{Transfer}
use Rattle.bookings.specs.Calls as bookings
use Rattle.bookings.specs.Calls.{Call, mark, InTurn, marked, transfers}
use Rattle.bookings.proofs.PairLaws.{times_none, times_append}
use Rattle.bookings.proofs.BookedLaws.{booked_on}
use Rattle.bookings.proofs.BookLaws.{is_transfer_lem}
use Rattle.bookings.proofs.IndexHolds.{over_transfers, over_calls}
use Rattle.hires.specs.Program.{Step, calls, marks, Program}
use Rattle.hires.specs.June.{Hire, pair, Arrives, read_back, BookedAs, TwoSendings, June}
use Rattle.hires.proofs.ProgramLaws.{calls_append, earlier, handed_on, in_full, by_reports}
use Rattle.hires.proofs.PossibleLaws.{begun, any, possible}
use Rattle.hires.proofs.OthersLaws.{not_ours}
use Rattle.hires.proofs.ArrivalLaws.{booked_as}

-- ---- calls of `book` in turn

-- one that reads a transfer is marked 1 or 2
mark_of : (cs : Line Call) (c : Call) → InTurn (cs ▸ c) → Transfer c.lent → (mark c ≡ 1) ⊎ (mark c ≡ 2)
mark_of cs c h t = when (over_transfers.either (transfers cs) (bookings.pair c))
  where
    when : IsBooked (transfers cs) (bookings.pair c) ⊎ IsAgain (transfers cs) (bookings.pair c)
        → (mark c ≡ 1) ⊎ (mark c ≡ 2)
    when (inl n) = inl ((over_calls.books cs c h).1 (t, rw (over_calls.marks cs h.0) n))
    when (inr a) = inr ((over_calls.again cs c h).1 (t, rw (over_calls.marks cs h.0) a))

marked_more : (t : Bool) (p : Pair) (xs ys zs : List Pair) → xs ≡ ys ++ zs
    → cond t (p ∷ xs) xs ≡ cond t (p ∷ ys) ys ++ zs
marked_more true p xs ys zs e = ap (◌∷◌ p) e
marked_more false p xs ys zs e = e

marked_append : (cs ds : Line Call) → marked (cs ⧺ ds) ≡ marked ds ++ marked cs
marked_append cs start = refl
marked_append cs (ds ▸ d) =
    marked_more (eqb (mark d) 1) (bookings.pair d) (marked (cs ⧺ ds)) (marked ds) (marked cs) (marked_append cs ds)

-- a pair that did not come was not booked
unbooked : (cs : Line Call) (p : Pair) → InTurn cs → (On p (transfers cs) → ⊥) → times p (marked cs) ≡ 0
unbooked cs p h n =
    rw (over_calls.marks cs h) (times_none p (booked (transfers cs)) (λ i. n (booked_on (transfers cs) p i)))

-- ---- the call of a hire

module _ {h : Hire} {xs : Line Step} (b : BookedAs h xs) where
  abbrev its_call : Call
  its_call = b.call

  is_read : its_call.reply.booked.transport ≡ read_back h
  is_read = b.read

  transfer_is : Transfer its_call.lent
  transfer_is =
      is_transfer_lem its_call.lent its_call.reply.booked.transport its_call.books.transport
      (ap (λ (t : Transport). t.fault) is_read) (ap (λ (t : Transport). t.message.kind) is_read ∙ h.kind)

  pair_is : bookings.pair its_call ≡ pair h
  pair_is =
      ap₂ (λ (g : Fields) (t : Transport). record { source = g.source.ssi; reference = t.message.reference })
      b.fields (sym its_call.books.transport ∙ is_read)

  marks_are : marks xs ≡ start ▸ mark its_call
  marks_are = ap (each mark) b.once

  marks_to : (n : ℕ) → mark its_call ≡ n → marks xs ≡ start ▸ n
  marks_to n e = marks_are ∙ ap (◌▸◌ start) e

  marks_from : (n : ℕ) → marks xs ≡ start ▸ n → mark its_call ≡ n
  marks_from n e = let f : start ▸ mark its_call ≡ start ▸ n = sym marks_are ∙ e in cc

one_mark : (s : Settings) (before xs : Line Step) (h : Hire) → Program s (before ⧺ xs) → Arrives s before h xs
    → (marks xs ≡ start ▸ 1) ⊎ (marks xs ≡ start ▸ 2)
one_mark s before xs h p a = when (mark_of (calls before) b.call turn (transfer_is b))
  where
    b : BookedAs h xs
    b = booked_as s before xs h p a

    turn : InTurn (calls before ▸ b.call)
    turn = rw (calls_append before xs, b.once) at p.books

    when : (mark b.call ≡ 1) ⊎ (mark b.call ≡ 2) → (marks xs ≡ start ▸ 1) ⊎ (marks xs ≡ start ▸ 2)
    when (inl e) = inl (marks_to b 1 e)
    when (inr e) = inr (marks_to b 2 e)

-- ---- two sendings

module _ (s : Settings) (t : TwoSendings s) where
  sooner : Program s (t.before ⧺ t.first)
  sooner =
      earlier (t.before ⧺ t.first) t.between (earlier (t.before ⧺ t.first ⧺ t.between) t.second t.program)

  b₁ : BookedAs t.hire t.first
  b₁ = booked_as s t.before t.first t.hire sooner t.arrives

  b₂ : BookedAs t.same t.second
  b₂ = booked_as s (t.before ⧺ t.first ⧺ t.between) t.second t.same t.program t.arrives_again

  abbrev c : Call
  c = b₁.call

  abbrev d : Call
  d = b₂.call

  abbrev cs : Line Call
  cs = calls t.before

  abbrev ds : Line Call
  ds = calls t.between

  all_calls : calls (t.before ⧺ t.first ⧺ t.between ⧺ t.second) ≡ cs ▸ c ⧺ ds ▸ d
  all_calls =
      calls_append (t.before ⧺ t.first ⧺ t.between) t.second
      ∙ ap₂ ◌⧺◌ (calls_append (t.before ⧺ t.first) t.between
      ∙ ap (λ (l : Line Call). l ⧺ ds) (calls_append t.before t.first ∙ ap (◌⧺◌ cs) b₁.once)) b₂.once

  since_calls : calls (t.first ⧺ t.between ⧺ t.second) ≡ start ▸ c ⧺ ds ▸ d
  since_calls =
      calls_append (t.first ⧺ t.between) t.second
      ∙ ap₂ ◌⧺◌ (calls_append t.first t.between ∙ ap (λ (l : Line Call). l ⧺ ds) b₁.once) b₂.once

  turn : InTurn (cs ▸ c ⧺ ds ▸ d)
  turn = rw all_calls at t.program.books

  same_pair : bookings.pair d ≡ bookings.pair c
  same_pair =
      pair_is b₂
      ∙ ap₂ (λ (x y : ℕ). record { source = x; reference = y }) t.source t.reference
      ∙ sym (pair_is b₁)

  -- the first is booked
  module _ (m : mark c ≡ 1) where
    second_again : mark d ≡ 2
    second_again = over_calls.heard_again cs ds c d turn m (transfer_is b₂) same_pair t.few

    marked_second : marked (ds ▸ d) ≡ marked ds
    marked_second = rw second_again refl

    booked_once : times (pair t.hire) (marked (start ▸ c ⧺ ds ▸ d)) ≡ 1
    booked_once =
        let l = t.few in
        ap (λ (p : Pair). times p (marked (start ▸ c ⧺ ds ▸ d))) (sym (pair_is b₁))
        ∙ over_calls.once cs (ds ▸ d) c turn m (rw marked_second (omega arith))

    exactly : (marks t.second ≡ start ▸ 2)
        × (times (pair t.hire) (marked (calls (t.first ⧺ t.between ⧺ t.second))) ≡ 1)
    exactly = (marks_to b₂ 2 second_again, rw since_calls booked_once)

  at_most_once : (marks t.first ≡ start ▸ 2) ⊎ (marks t.second ≡ start ▸ 2)
  at_most_once = when (one_mark s t.before t.first t.hire sooner t.arrives)
    where
      when : (marks t.first ≡ start ▸ 1) ⊎ (marks t.first ≡ start ▸ 2)
          → (marks t.first ≡ start ▸ 2) ⊎ (marks t.second ≡ start ▸ 2)
      when (inl e) = inr (exactly (marks_from b₁ 1 e)).0
      when (inr e) = inl e

  -- none with the pair came before
  module _ (n : On (pair t.hire) (transfers cs) → ⊥) where
    in_turn : InTurn (cs ▸ c)
    in_turn = rw (calls_append t.before t.first, b₁.once) at sooner.books

    first_booked : mark c ≡ 1
    first_booked = over_calls.first cs c in_turn (transfer_is b₁) (rw (pair_is b₁) n)

    ever_once : times (pair t.hire) (marked (calls (t.before ⧺ t.first ⧺ t.between ⧺ t.second))) ≡ 1
    ever_once =
        let p = pair t.hire in
        let since = start ▸ c ⧺ ds ▸ d in
        let now = booked_once first_booked in
        let then = unbooked cs p in_turn.0 n in
        ap (λ (l : Line Call). times p (marked l)) (all_calls ∙ sym (⧺-assoc cs (start ▸ c) (ds ▸ d)))
        ∙ ap (times p) (marked_append cs since)
        ∙ times_append p (marked since) (marked cs)
        ∙ omega arith

    from_fresh : (marks t.first ≡ start ▸ 1) × (marks t.second ≡ start ▸ 2)
        × (times (pair t.hire) (marked (calls (t.before ⧺ t.first ⧺ t.between ⧺ t.second))) ≡ 1)
    from_fresh = (marks_to b₁ 1 first_booked, marks_to b₂ 2 (second_again first_booked), ever_once)

pub june : June
june =
    record {
      begun = begun;
      any = any;
      handed_on = handed_on;
      in_full = in_full;
      by_reports = by_reports;
      possible = possible;
      arrives = booked_as;
      one_mark = one_mark;
      not_ours = not_ours;
      at_most_once = at_most_once;
      exactly_once = λ s t e. exactly s t (marks_from (b₁ s t) 1 e);
      from_fresh = from_fresh;
    }
