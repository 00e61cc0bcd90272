-- The law of the calls holds. Assumes nothing.
use mathlib.Core.Path.{◌≡◌, refl, sym, ap, ap₂, ◌∙◌, subst}
use mathlib.Core.Bool.{Bool, true, false, cond}
use mathlib.Core.List.{List}
use Prim.Native.Nat.{ℕ, suc, ◌≤◌, ◌<◌}
use native.Mathlib.Omega.{arith}
use lib.Dec.{eqb}
use lib.ListN.{take}
use Rattle.bits.specs.Bits.{bits_of}
use Rattle.blocks.specs.declared.header.Fields.{Fields}
use Rattle.store.proofs.Messages.{handed_bits}
use Rattle.history.specs.Line.{Line, start, ◌▸◌, ◌⧺◌}
use Rattle.history.specs.Slots.{next, Report}
use Rattle.history.specs.History.{History, final, Copies}
use Rattle.history.specs.Step.{Outcome, quiet, single, joined, opened, kept, copy, Answer, answer, number, message_of}
use Rattle.history.specs.Step.{fields_of, after, outcome_at, dropped_at}
use Rattle.history.proofs.Lines.{never, both, ⧺-assoc, each-⧺}
use Rattle.history.proofs.Theorems.{theorem_joined, theorem_single, theorem_dropped, theorem_told_only}
use Rattle.reports.specs.Lent.{Lent, Event, for_unit}
use Rattle.reports.specs.declared.unit.Settings.{Settings}
use Rattle.receiver.specs.Reached.{report_of, reports}
use Rattle.demands.specs.Calls as call
use Rattle.demands.specs.Calls.{HearCall, history, current, Taken, Series, none, one_more}
use Rattle.demands.specs.Demand3.{HandsOver, HandsNothing}
use Rattle.demands.proofs.Demand3Holds.{given, answers, unmarked}
use Rattle.demands.proofs.SeriesLaws.{series}
use Rattle.ends.specs.EndToEnd.{Message, Build, bits, k, header_slot, header_lent, block_lent, due_slot, Sent}
use Rattle.ends.specs.EndToEnd as ends
use Rattle.ends.specs.EndToEnd.{Handed, with_outcome, handed, header_report, all_reports, so_far, on_its_way}
use Rattle.ends.specs.Delivered.{hands, handed_by, sent_lent, Arrives, Delivered}
use Rattle.ends.proofs.EndToEndHolds.{end_to_end}

not-true : (b : Bool) → b ≡ false → b ≡ true → ⊥
not-true b e f = let z : false ≡ true = sym e ∙ f in let y : ◌≡◌ {A = ℕ} 0 1 = cc in omega arith

module _ (c : HearCall) (t : Taken c) (m : Message) (b : Build m) (w : for_unit c.settings m.fields ≡ true) where
  joined_by : (before ls : Line Lent) (i : ℕ) → c.earlier ≡ (before ▸ header_lent m b) ⧺ ls
      → Sent c.settings m b ls i → suc i ≡ k m
      → due_slot m b i ≡ next (final (header_slot m b) (reports c.settings ls))
      → c.report ≡ block_lent m b i (due_slot m b i)
      → ((call.answer c).outcome ≡ 2) × ((call.answer c).dropped ≡ 0) × HandsOver c m.fields (bits m)
  joined_by before ls i e s u g r =
      let hs = reports c.settings before in
      let h : history c ≡ so_far c.settings m b hs ls = ap (reports c.settings) e
      ∙ each-⧺ (report_of c.settings) (before ▸ header_lent m b) ls in
      let a : answer (after (history c)) (current c)
      ≡ record { outcome = joined m.fields (bits m); dropped = false } =
      rw (h, r) ((end_to_end.hands_over c.settings m b hs w).at_last s u g) in
      let j = (theorem_joined (history c) (current c) m.fields (bits m)).0 (ap (λ (x : Answer). x.outcome) a) in
      let d : (call.answer c).dropped ≡ 1 → ⊥ =
      λ z. not-true (dropped_at (history c) (current c)) (ap (λ (x : Answer). x.dropped) a)
      ((theorem_dropped (history c) (current c)).1 ((answers c t).dropped.0 z)) in
      let l = (answers c t).mark in
      let o = (answers c t).joined.1 (record { fields = m.fields; message = bits m; holds = j }) in
      (o, omega arith, (answers c t).joined_what m.fields (bits m) j)

  single_by : k m ≡ 0 → c.report ≡ header_lent m b → (Copies (history c) (current c) → ⊥)
      → ((call.answer c).outcome ≡ 1) × HandsOver c m.fields (bits m)
  single_by z r n =
      let x = report_of c.settings (header_lent m b) in
      let e : current c ≡ x = ap (report_of c.settings) r in
      let y : outcome_at (history c) (current c) ≡ single m.fields (bits m) =
      let h = end_to_end.hands_over c.settings m b (history c) w in
      rw e (h.at_once z (λ q. n (subst (Copies (history c)) (sym e) q))) in
      let j = (theorem_single (history c) (current c) m.fields (bits m)).0 y in
      let o = (answers c t).single.1 (record { fields = m.fields; message = bits m; holds = j }) in
      (o, (answers c t).single_what m.fields (bits m) j)

-- ---- a line of calls

-- a call's answer in numbers, and what stands in the buffer
module _ (c : HearCall) (t : Taken c) where
  abbrev o : Outcome
  o = outcome_at (history c) (current c)

  number_is : (call.answer c).outcome ≡ number o
  number_is = (theorem_told_only (history c) (current c) (given c t).told).0

  fields_is : (call.answer c).fields ≡ fields_of o
  fields_is = (theorem_told_only (history c) (current c) (given c t).told).1

  bits_is : take (call.answer c).bits (bits_of c.new) ≡ message_of o
  bits_is =
      let g = given c t in
      ap₂ (λ (n : ℕ) (b : List ℕ). take n (bits_of b)) g.bits g.buffer ∙ handed_bits g.message c.old
      ∙ (theorem_told_only (history c) (current c) g.told).2

-- what it hands over, by its outcome
by_outcome : (l : Line Handed) (n : ℕ) (x : Handed) (o : Outcome) → n ≡ number o
    → x ≡ record { fields = fields_of o; bits = message_of o }
    → cond (hands n) (l ▸ x) l ≡ with_outcome l o
by_outcome l n x quiet e z = rw e refl
by_outcome l n x (single g m) e z = rw (e, z) refl
by_outcome l n x (joined g m) e z = rw (e, z) refl
by_outcome l n x opened e z = rw e refl
by_outcome l n x kept e z = rw e refl
by_outcome l n x copy e z = rw e refl

module _ (s : Settings) (before : Line Event) where
  history_is : (c : HearCall) (ls : Line Event) → c.settings ≡ s → c.earlier ≡ before ⧺ ls
      → history c ≡ reports s before ⧺ reports s ls
  history_is c ls e f = ap₂ reports e f ∙ each-⧺ (report_of s) before ls

  current_is : (c : HearCall) → c.settings ≡ s → current c ≡ report_of s c.report
  current_is c e = ap (λ (x : Settings). report_of x c.report) e

  handed_is : {ls : Line Event} {cs : Line HearCall} → Series s before ls cs
      → handed_by cs ≡ handed (reports s before) (reports s ls)
  handed_is none = refl
  handed_is (one_more {ls} {cs} h c t e f) =
      by_outcome (handed_by cs) _ _ (outcome_at (history c) (current c)) (number_is c t)
      (ap₂ (λ (g : Fields) (m : List Bool). record { fields = g; bits = m }) (fields_is c t) (bits_is c t))
      ∙ ap₂ with_outcome (handed_is h) (ap₂ outcome_at (history_is c ls e f) (current_is c e))

-- ---- the last of them

record Last (s : Settings) (before ls : Line Event) (l : Lent) (c : HearCall) : Type 0 where
  taken : Taken c
  settings : c.settings ≡ s
  earlier : c.earlier ≡ before ⧺ ls
  report : c.report ≡ l

last_of : {s : Settings} {before xs ls : Line Event} {ys cs : Line HearCall} {l : Lent} {c : HearCall}
    → Series s before xs ys → xs ≡ ls ▸ l → ys ≡ cs ▸ c → Last s before ls l c
last_of none e f = absurd (never _ _ (sym e))
last_of {s} {before} {ls = ls} {l = l} (one_more h d t i j) e f =
    let (x, y) = both e in
    subst (Last s before ls l) (both f).1
    (record { taken = t; settings = i; earlier = j ∙ ap (λ (z : Line Event). before ⧺ z) x; report = y })

module _ {s : Settings} {before ls : Line Event} {l : Lent} {c : HearCall} (z : Last s before ls l c) where
  abbrev asked : Answer
  asked = answer (after (reports s before ⧺ reports s ls)) (report_of s l)

  asked_is : answer (after (history c)) (current c) ≡ asked
  asked_is =
      ap₂ (λ (h : History) (r : Report). answer (after h) r) (history_is s before c ls z.settings z.earlier)
      (ap₂ report_of z.settings z.report)

  outcome_is : {o : Outcome} → asked.outcome ≡ o → (call.answer c).outcome ≡ number o
  outcome_is e = number_is c z.taken ∙ ap (λ (a : Answer). number a.outcome) asked_is ∙ ap number e

  not_dropped : asked.dropped ≡ false → (call.answer c).dropped ≡ 0
  not_dropped e = unmarked c z.taken (ap (λ (a : Answer). a.dropped) asked_is ∙ e)

  nothing_handed : {o : Outcome} → asked.outcome ≡ o → (number o ≡ 1 → ⊥) → (number o ≡ 2 → ⊥) → HandsNothing c
  nothing_handed e one two =
      let n = outcome_is e in (answers c z.taken).quiet (λ d. one (sym n ∙ d)) (λ d. two (sym n ∙ d))

-- what a report on the way is answered with hands nothing over
way_number : (o : Outcome) (n kind : ℕ) → 3 ≤ number o → n ≤ 2 → 1 ≤ n → number (on_its_way o kind) ≡ n → ⊥
way_number o n kind a b d = go (eqb kind 2) (eqb kind 3)
  where
    go : (x y : Bool) → number (cond x o (cond y kept quiet)) ≡ n → ⊥
    go true y e = omega (arith, a, b, e)
    go false true e = omega (arith, b, e)
    go false false e = omega (arith, d, e)

-- ---- a message on its way

module _ (s : Settings) (m : Message) (b : Build m) (before : Line Event) (w : for_unit s m.fields ≡ true) where
  abbrev hs : History
  hs = reports s before

  law : ends.HandsOver s m b hs
  law = end_to_end.hands_over s m b hs w

  handed_all : (ls : Line Lent) {cs : Line HearCall} → Series s before (sent_lent m b ls) cs
      → handed_by cs ≡ handed hs (all_reports s m b ls)
  handed_all ls h = handed_is s before h ∙ ap (handed hs) (each-⧺ (report_of s) (start ▸ header_lent m b) ls)

  heard_so_far : (ls : Line Lent) → hs ⧺ reports s (sent_lent m b ls) ≡ so_far s m b hs ls
  heard_so_far ls =
      ap (λ (h : History). hs ⧺ h) (each-⧺ (report_of s) (start ▸ header_lent m b) ls)
      ∙ ⧺-assoc hs (start ▸ header_report s m b) (reports s ls)

  on_the_way : {ls : Line Lent} {l : Lent} {cs : Line HearCall} {c : HearCall} {i : ℕ} → Sent s m b (ls ▸ l) i
      → i < k m → Series s before (sent_lent m b (ls ▸ l)) (cs ▸ c)
      → ((call.answer c).outcome ≡ number (on_its_way opened l.kind)) × ((call.answer c).dropped ≡ 0) × HandsNothing c
  on_the_way {ls} {l} x few h =
      let z = last_of h refl refl in
      let e = ap (λ (h : History). answer (after h) (report_of s l)) (heard_so_far ls) ∙ law.undropped x few in
      let o = ap (λ (a : Answer). a.outcome) e in (
        outcome_is z o,
        not_dropped z (ap (λ (a : Answer). a.dropped) e),
        nothing_handed z o (way_number opened 1 l.kind (omega arith) (omega arith) (omega arith))
            (way_number opened 2 l.kind (omega arith) (omega arith) (omega arith)),
      )

  arrives : Arrives s m b before
  arrives =
      record {
        once = λ n {ls} x h. handed_all ls h ∙ law.once n x;
        copied = λ z y {ls} x h. handed_all ls h ∙ law.copied z y x;
        not_before = λ {ls} x few h. handed_all ls h ∙ law.not_before x few;
        opens = λ some h.
            let z = last_of h refl refl in
            let o = law.opens some in
            (outcome_is z o, nothing_handed z o (λ e. omega (arith, e)) (λ e. omega (arith, e)));
        on_the_way = on_the_way;
        repeated = λ none {ls} {l} x h.
            let z = last_of h refl refl in
            let o =
            ap (λ (h : History). outcome_at h (report_of s l)) (heard_so_far ls) ∙ law.repeated none x in (
              outcome_is z o,
              nothing_handed z o (way_number copy 1 l.kind (omega arith) (omega arith) (omega arith))
                  (way_number copy 2 l.kind (omega arith) (omega arith) (omega arith)),
            );
      }

pub delivered : Delivered
delivered =
    record {
      arrives = arrives;
      joined = λ c t m b w before ls i e s u g r. joined_by c t m b w before ls i e s u g r;
      single = λ c t m b w z r n. single_by c t m b w z r n;
      possible = λ c ls a. series c ls a;
    }
