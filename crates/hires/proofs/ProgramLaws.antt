-- The laws of a program that hears and books: what goes to `book`. Assumes nothing.
use mathlib.Core.Path.{◌≡◌, refl, sym, ap, ap₂, ◌∙◌, subst}
use mathlib.Core.Logic.{◌⊎◌, inl, inr}
use mathlib.Core.Bool.{Bool, true, false, cond}
use mathlib.Core.List.{List}
use Prim.Native.Nat.{ℕ, zero, suc, ◌*◌, ◌≤◌}
use native.Mathlib.Omega.{arith}
use lib.Dec.{eqb, eqb-suc-zero}
use lib.ListN.{length}
use Rattle.store.specs.Store.{handed}
use Rattle.store.proofs.Messages.{handed_bits}
use Rattle.blocks.specs.declared.header.Fields.{Fields}
use Rattle.history.specs.Line.{Line, start, ◌▸◌, ◌⧺◌, each, Every}
use Rattle.history.specs.History.{History}
use Rattle.history.specs.Step as told
use Rattle.history.specs.Step.{Outcome, number, message_of, fields_of, outcome_at}
use Rattle.history.proofs.Lines.{each-⧺}
use Rattle.history.proofs.Theorems.{theorem_told_only}
use Rattle.reports.specs.Lent.{Lent}
use Rattle.reports.specs.declared.unit.Settings.{Settings}
use Rattle.receiver.specs.View.{fresh_of}
use Rattle.receiver.specs.Reached.{report_of, reports, refused_with, Leads, Answered}
use Rattle.receiver.specs.declared.Receiver.{Receiver}
use Rattle.receiver.specs.declared.Fresh.{Fresh}
use Rattle.demands.specs.Calls as demands
use Rattle.demands.proofs.Demand3Holds.{leads}
use Rattle.transport.specs.Reading.{sdu_bits}
use Rattle.bookings.specs.Pairs.{booked}
use Rattle.bookings.specs.Kept.{bookings_at}
use Rattle.bookings.specs.Calls.{Call, after, marked, transfers}
use Rattle.bookings.proofs.CallLaws.{earlier_in_turn}
use Rattle.bookings.proofs.IndexHolds.{over_calls}
use Rattle.ends.specs.EndToEnd as ends
use Rattle.ends.specs.EndToEnd.{Handed, with_outcome}
use Rattle.hires.specs.Program.{Hearing, HandsOver, handed_on_to, Step, quiet, books, hearing, accepted}
use Rattle.hires.specs.Program.{calls, receiver_after, HearsInTurn, Program, message_in, transfers_in}
use Rattle.hires.proofs.HandedLaws.{handed_lent, Whole, in_lent, transfers_in_lem}

-- ---- its calls of `hear`

abbrev refusal : Hearing → ℕ
refusal h = refused_with h.report h.old

heard_when_lem : {s : Settings} {ls : Line Lent} (h : Hearing) → demands.Calls s ls h.before → (n : ℕ) → refusal h ≡ n
    → demands.Calls s (cond (eqb n 0) (ls ▸ h.report) ls) h.reply.receiver
heard_when_lem h c zero e = demands.accepted c h.report h.reply h.old h.new h.hears e
heard_when_lem h c (suc n) e =
    rw (eqb-suc-zero n) (demands.refused c h.report h.reply h.old h.new h.hears n e)

module _ (individual group mni : ℕ) (f : Fresh) (b : f ≡ fresh_of individual group mni) where
  heard_by : (xs : Line Step) → HearsInTurn f.receiver xs
      → demands.Calls f.receiver.settings (accepted xs) (receiver_after f.receiver xs)
  heard_by start h = demands.begun individual group mni f b
  heard_by (xs ▸ x) h =
      let c = subst (demands.Calls f.receiver.settings (accepted xs)) (sym h.1) (heard_by xs h.0) in
      heard_when_lem (hearing x) c (refusal (hearing x)) refl

-- they are those of a receiver
pub hears_calls : {s : Settings} {xs : Line Step} (p : Program s xs)
    → demands.Calls s (accepted xs) (receiver_after p.fresh.receiver xs)
hears_calls {s} {xs} p =
    rw p.unit (heard_by p.individual p.group p.mni p.fresh p.begun xs p.hears)

-- ---- its steps in turn

pub calls_append : (xs ys : Line Step) → calls (xs ⧺ ys) ≡ calls xs ⧺ calls ys
calls_append xs start = refl
calls_append xs (ys ▸ quiet h n) = calls_append xs ys
calls_append xs (ys ▸ books h y c e) = ap (λ (cs : Line Call). cs ▸ c) (calls_append xs ys)

accepted_more : (t : Bool) (l : Lent) (xs ys zs : Line Lent) → xs ≡ ys ⧺ zs
    → cond t (xs ▸ l) xs ≡ ys ⧺ cond t (zs ▸ l) zs
accepted_more true l xs ys zs e = ap (λ (ls : Line Lent). ls ▸ l) e
accepted_more false l xs ys zs e = e

accepted_append : (xs ys : Line Step) → accepted (xs ⧺ ys) ≡ accepted xs ⧺ accepted ys
accepted_append xs start = refl
accepted_append xs (ys ▸ y) =
    accepted_more (eqb (refusal (hearing y)) 0) (hearing y).report (accepted (xs ⧺ ys)) (accepted xs) (accepted ys)
    (accepted_append xs ys)

hears_earlier : (r : Receiver) (xs ys : Line Step) → HearsInTurn r (xs ⧺ ys) → HearsInTurn r xs
hears_earlier r xs start h = h
hears_earlier r xs (ys ▸ y) h = hears_earlier r xs ys h.0

-- what it did earlier is a program too
pub earlier : {s : Settings} (xs ys : Line Step) → Program s (xs ⧺ ys) → Program s xs
earlier xs ys p =
    record {
      individual = p.individual;
      group = p.group;
      mni = p.mni;
      fresh = p.fresh;
      begun = p.begun;
      unit = p.unit;
      hears = hears_earlier p.fresh.receiver xs ys p.hears;
      books = earlier_in_turn (calls xs) (calls ys) (rw (calls_append xs ys) at p.books);
    }

-- the accepted reports before a step lead to its receiver
pub leads_before : {s : Settings} (xs : Line Step) (x : Step) → Program s (xs ▸ x)
    → Leads s (accepted xs) (hearing x).before
unfolding earlier
leads_before xs x p = rw p.hears.1 (leads (hears_calls (earlier xs (start ▸ x) p)))

-- ---- what a step hands on

-- by what the history asks for
unasked : (h : Hearing) → (HandsOver h → ⊥) → (o : Outcome) → h.reply.answer.outcome ≡ number o → (l : Line Handed)
    → l ≡ with_outcome l o
unasked h n told.quiet e l = refl
unasked h n (told.single g m) e l = absurd (n (inl e))
unasked h n (told.joined g m) e l = absurd (n (inr e))
unasked h n told.opened e l = refl
unasked h n told.kept e l = refl
unasked h n told.copy e l = refl

not_handed : {n m : ℕ} → (n ≡ 1) ⊎ (n ≡ 2) → n ≡ m → (m ≡ 1 → ⊥) → (m ≡ 2 → ⊥) → ⊥
not_handed (inl d) e a b = a (sym e ∙ d)
not_handed (inr d) e a b = b (sym e ∙ d)

asked : (h : Hearing) → HandsOver h → (x : Handed) (o : Outcome) → h.reply.answer.outcome ≡ number o
    → x ≡ record { fields = fields_of o; bits = message_of o } → (l : Line Handed) → l ▸ x ≡ with_outcome l o
asked h y x told.quiet e q l = absurd (not_handed y e (λ z. omega arith) (λ z. omega arith))
asked h y x (told.single g m) e q l = ap (◌▸◌ l) q
asked h y x (told.joined g m) e q l = ap (◌▸◌ l) q
asked h y x told.opened e q l = absurd (not_handed y e (λ z. omega arith) (λ z. omega arith))
asked h y x told.kept e q l = absurd (not_handed y e (λ z. omega arith) (λ z. omega arith))
asked h y x told.copy e q l = absurd (not_handed y e (λ z. omega arith) (λ z. omega arith))

lent_in_full : {n : ℕ} {new : List ℕ} (m : List Bool) (old : List ℕ) → n ≡ length m → new ≡ handed m old
    → n ≤ 8 * length new
lent_in_full m old e f = rw (e, f) (handed_lent m old)

module _ (s : Settings) (ls : Line Lent) where
  abbrev outcome : Hearing → Outcome
  outcome h = outcome_at (reports s ls) (report_of s h.report)

  -- the message that is handed over stands in the buffer
  module _ (h : Hearing) (k : Leads s ls h.before) (z : refusal h ≡ 0) where
    given : Answered s ls h.report h.reply h.old h.new
    given = h.hears.answered s ls k z

    bits_handed : sdu_bits h.reply.answer.bits h.new ≡ given.message
    bits_handed = ap₂ sdu_bits given.bits given.buffer ∙ handed_bits given.message h.old

    whole_handed : Whole (handed_on_to h)
    whole_handed = lent_in_full given.message h.old given.bits given.buffer

    number_is : h.reply.answer.outcome ≡ number (outcome h)
    number_is = (theorem_told_only (reports s ls) (report_of s h.report) given.told).0

    handed_is : in_lent (handed_on_to h) ≡ record { fields = fields_of (outcome h); bits = message_of (outcome h) }
    handed_is =
        let t = theorem_told_only (reports s ls) (report_of s h.report) given.told in
        ap₂ (λ (g : Fields) (m : List Bool). record { fields = g; bits = m }) t.1 (bits_handed ∙ t.2)

  -- an accepted report hands on what the history asks for
  hands_on : (x : Step) (xs : Line Step) → Leads s ls (hearing x).before → refusal (hearing x) ≡ 0
      → each message_in (calls (xs ▸ x)) ≡ with_outcome (each message_in (calls xs)) (outcome (hearing x))
  hands_on (quiet h n) xs k z = unasked h n (outcome h) (number_is h k z) (each message_in (calls xs))
  hands_on (books h y c e) xs k z =
      asked h y (message_in c) (outcome h) (number_is h k z) (ap in_lent e
      ∙ handed_is h k z) (each message_in (calls xs))

  -- a refused one hands nothing on
  refused_on : (x : Step) (xs : Line Step) (n : ℕ) → refusal (hearing x) ≡ suc n → calls (xs ▸ x) ≡ calls xs
  refused_on (quiet h y) xs n e = refl
  refused_on (books h y c q) xs n e =
      let a = ap (λ a. a.outcome) (h.hears.refused n e).answer in
      absurd (not_handed y a (λ z. omega arith) (λ z. omega arith))

  whole_on : (x : Step) (xs : Line Step) → Leads s ls (hearing x).before → refusal (hearing x) ≡ 0
      → Every (λ c. Whole c.lent) (calls xs) → Every (λ c. Whole c.lent) (calls (xs ▸ x))
  whole_on (quiet h n) xs k z w = w
  whole_on (books h y c e) xs k z w = (w, rw e (whole_handed h k z))

-- ---- what the program hands on

module _ (s : Settings) where
  handed_when : (before xs : Line Step) (x : Step) → Leads s (accepted before ⧺ accepted xs) (hearing x).before
      → each message_in (calls xs) ≡ ends.handed (reports s (accepted before)) (reports s (accepted xs)) → (n : ℕ)
      → refusal (hearing x) ≡ n
      → each message_in (calls (xs ▸ x))
      ≡ ends.handed (reports s (accepted before))
      (reports s (cond (eqb n 0) (accepted xs ▸ (hearing x).report) (accepted xs)))
  handed_when before xs x k ih zero e =
      hands_on s (accepted before ⧺ accepted xs) x xs k e
      ∙ ap₂ (λ (l : Line Handed) (h : History). with_outcome l (outcome_at h (report_of s (hearing x).report))) ih
      (each-⧺ (report_of s) (accepted before) (accepted xs))
  handed_when before xs x k ih (suc n) e =
      rw (eqb-suc-zero n) (ap (each message_in) (refused_on s (accepted before ⧺ accepted xs) x xs n e) ∙ ih)

  pub handed_on : (before xs : Line Step) → Program s (before ⧺ xs)
      → each message_in (calls xs) ≡ ends.handed (reports s (accepted before)) (reports s (accepted xs))
  handed_on before start p = refl
  handed_on before (xs ▸ x) p =
      let k = rw (accepted_append before xs) at (leads_before (before ⧺ xs) x p) in
      let ih = handed_on before xs (earlier (before ⧺ xs) (start ▸ x) p) in
      handed_when before xs x k ih (refusal (hearing x)) refl

  whole_when : (xs : Line Step) (x : Step) → Leads s (accepted xs) (hearing x).before
      → Every (λ c. Whole c.lent) (calls xs) → (n : ℕ) → refusal (hearing x) ≡ n
      → Every (λ c. Whole c.lent) (calls (xs ▸ x))
  whole_when xs x k w zero e = whole_on s (accepted xs) x xs k e w
  whole_when xs x k w (suc n) e = rw (refused_on s (accepted xs) x xs n e) w

  pub in_full : (xs : Line Step) → Program s xs → Every (λ c. Whole c.lent) (calls xs)
  in_full start p = tt
  in_full (xs ▸ x) p =
      whole_when xs x (leads_before xs x p) (in_full xs (earlier xs (start ▸ x) p)) (refusal (hearing x)) refl

  from_start : (xs : Line Step) → start ⧺ xs ≡ xs
  from_start start = refl
  from_start (xs ▸ x) = ap (λ (l : Line Step). l ▸ x) (from_start xs)

  transfers_are : (xs : Line Step) → Program s xs
      → transfers (calls xs) ≡ transfers_in (ends.handed start (reports s (accepted xs)))
  transfers_are xs p =
      transfers_in_lem (calls xs) (in_full xs p) ∙ ap transfers_in (handed_on start xs (rw (from_start xs) p))

  pub by_reports : (xs : Line Step) → Program s xs
      → let ts = transfers_in (ends.handed start (reports s (accepted xs))) in
      (transfers (calls xs) ≡ ts) × (marked (calls xs) ≡ booked ts) × (after (calls xs) ≡ bookings_at ts)
  by_reports xs p =
      let e = transfers_are xs p in
      let cs = calls xs in
      (e, over_calls.marks cs p.books ∙ ap booked e, over_calls.kept cs p.books ∙ ap bookings_at e)
