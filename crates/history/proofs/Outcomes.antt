-- Each outcome and the dropped mark, as the step gives them and as the history asks for them. Assumes nothing.
use Prim.Native.Nat.{ℕ, suc, ◌≤◌}
use native.Mathlib.Omega.{arith}
use mathlib.Core.Path.{◌≡◌, refl, sym, ◌∙◌, ap, ap₂, subst}
use mathlib.Core.Bool.{Bool, true, false, cond, not, ◌&&◌}
use mathlib.Core.List.{List, ◌++◌}
use lib.Dec.{eqb}
use borrow.Author.Tests.{eqb-true, eqb-false, eq-eqb, ne_eqb, not-true}
use Rattle.history.specs.Line.{◌▸◌, count}
use Rattle.history.specs.Slots.{header_in, bits_in, Header, Heard, Report}
use Rattle.history.specs.Slots.{nothing, fragmented, unfragmented, frag, end}
use Rattle.blocks.specs.declared.header.Fields.{Fields}
use Rattle.history.specs.declared.Place.{Place}
use Rattle.history.specs.declared.Near.{Near}
use Rattle.history.specs.declared.Verdict.{Verdict}
use Rattle.history.specs.declared.Outcome as code
use Rattle.history.specs.declared.Outcome.TheVariants.{Single, Copied}
use Rattle.history.specs.Step.{Assembly, State, Outcome, Answer, quiet, single, joined, opened, kept, copy}
use Rattle.history.specs.Step.{no_run, in_turn, is_held, is_due, is_last, repeats, renews, older_run, broken_off}
use Rattle.history.specs.Step.{on_frag, on_end, on_fragmented, on_unfragmented, outcome_of, judged, answered}
use Rattle.history.specs.Step.{copied, answer, after, outcome_at, dropped_at}
use Rattle.history.specs.History.{History, Unbroken, Run, IsOpen, next_due, Closes, Keeps, Singles, Copies, Opens}
use Rattle.history.specs.History.{NotForUs, DueKind, Repeats, Ends, broken, other_header, missed, Drops}
use Rattle.history.proofs.Verdicts.{absurd_bool, unfit, Hands, no_hand, hand, mark_is}
use Rattle.history.proofs.Verdicts.{Comes, passing, missing, keeping, closing, heading, comes}
use Rattle.history.proofs.Verdicts.{lost_is, misses_is, quiet_is, rest, rest_at, lost_at, comes_at}
use Rattle.history.proofs.OpenRun.{and_true, same_place_true, same_place_is, turn_true, turn_is, report, on}
use Rattle.history.proofs.OpenRun.{shape, left, again_true, again_is, repeats_true, repeats_is, left_at, found}
use Rattle.history.proofs.OpenRun.{Holds, none_held, run_held, holds, Rests, none_rests, run_rests, rests_at}
use Rattle.history.proofs.OpenRun.{leaving}
use Rattle.history.proofs.EarlierHeaders.{copy_true, copy_is}

-- What each outcome says of the history.
abbrev Says : History → Report → Outcome → Type 0
Says hs r quiet = Unit {0}
Says hs r (single g m) = Singles hs r g m
Says hs r (joined g m) = Closes hs r g m
Says hs r opened = Opens r
Says hs r kept = Keeps hs r
Says hs r copy = Copies hs r

module _ (hs : History) (q : Place) where
  says_hands : (g : Fields) (m : List Bool) {x : Heard} {o : code.Outcome} {near : Bool}
      → Hands (rest_at hs q).near x o near
      → Says hs (report q x) (outcome_of o (header_in x).fields (bits_in x) g m)
  says_hands g m (no_hand w) = tt
  says_hands g m (hand {h} {f} true w e) =
      let c = copy_true hs (report q (unfragmented h f)) h f e in
      record { header = h; countdown = f; holds = refl; for_us = w; is_copy = c }
  says_hands g m (hand {h} {f} false w e) =
      record {
        header = h;
        countdown = f;
        holds = refl;
        for_us = w;
        no_copy = λ y. absurd_bool (sym e ∙ copy_is hs (report q (unfragmented h f)) h f y);
        its_fields = refl;
        its_bits = refl;
      }

  says_step : {lost : Bool} {a : Assembly} {x : Heard} {v : Verdict} → Rests hs (report q x) a
      → Comes a.run (rest_at hs q).near q lost x v
      → Says hs (report q x) (answered (rest q (rest_at hs q).near a) x v).outcome
  says_step {a = a} {x = x} i (passing n d g) = says_hands a.run.fields (a.joined ++ bits_in x) g
  says_step {a = a} {x = x} i (missing n d w g) = says_hands a.run.fields (a.joined ++ bits_in x) g
  says_step none_rests (keeping b d l) = absurd_bool d
  says_step (run_rests u o k) (keeping b d l) =
      let n = eqb-false (count u.blocks) u.more l in
      record {
        run = u;
        is_open = o;
        unbroken = k;
        in_due = same_place_true q (next_due u) d;
        not_full = omega (arith, o.short);
        block = b;
        holds = refl;
      }
  says_step none_rests (closing b d l) = absurd_bool d
  says_step (run_rests u o k) (closing b d l) =
      record {
        run = u;
        is_open = o;
        unbroken = k;
        in_due = same_place_true q (next_due u) d;
        full = eqb-true (count u.blocks) u.more l;
        last = b;
        holds = refl;
        its_fields = refl;
        its_bits = refl;
      }
  says_step i (heading {h} {more} {f} true w) =
      record { header = h; more = more; countdown = f; holds = refl; for_us = w }
  says_step i (heading false w) = tt

pub untrue : (b : Bool) → (b ≡ true → ⊥) → b ≡ false
untrue false h = refl
untrue true h = absurd (h refl)

module _ (hs : History) (r : Report) where
  pub says : (o : Outcome) → outcome_at hs r ≡ o → Says hs r o
  unfolding answer
  says o e = subst (λ (o : Outcome). Says hs r o) e (says_step hs r.place (rests_at hs r (holds hs)) (comes_at hs r))

  -- The other way round: the answer where what is left and what is heard are known.
  pub answer_at : (a : Assembly) (x : Heard) → (rest_at hs r.place).assembly ≡ a → r.heard ≡ x
      → answer (after hs) r ≡ answered (leaving hs r a) x (judged (leaving hs r a) r.place x (lost_at hs r.place))
  unfolding answer
  answer_at a x e g =
      let v : State → Heard → Verdict = λ s x. judged s r.place x (lost_at hs r.place) in
      ap₂ (λ (a : Assembly) (x : Heard). let s = leaving hs r a in answered s x (v s x)) e g

  -- What is left of a known run.
  pub run_at : (u : Run) → IsOpen hs u → Unbroken hs r.place → (rest_at hs r.place).assembly ≡ shape (on u r)
  run_at u o k = left_at hs r.place k (found hs u o)

  -- The answer at a report that closes a full run.
  pub closing_at : {g : Fields} {m : List Bool} (c : Closes hs r g m) → let a = shape (on c.run r) in
      answer (after hs) r ≡ answered (leaving hs r a) (end c.last) (on_end true true (lost_at hs r.place))
  closing_at c =
      let u = c.run in
      let x = end c.last in
      let a = shape (on u r) in
      answer_at a x (run_at u c.is_open c.unbroken) c.holds
      ∙ ap₂ (λ (d l : Bool). answered (leaving hs r a) x (on_end d l (lost_at hs r.place)))
      (same_place_is r.place (next_due u) c.in_due) (eq-eqb (count u.blocks) u.more c.full)

  pub closes : (g : Fields) (m : List Bool) → Closes hs r g m → outcome_at hs r ≡ joined g m
  closes g m c =
      ap (λ (y : Answer). y.outcome) (closing_at c) ∙ ap₂ joined (sym c.its_fields) (sym c.its_bits)

  -- The answer at a report whose block is kept.
  pub keeping_at : (c : Keeps hs r) → let a = shape (on c.run r) in
      answer (after hs) r ≡ answered (leaving hs r a) (frag c.block) (on_frag true false (lost_at hs r.place))
  keeping_at c =
      let u = c.run in
      let x = frag c.block in
      let a = shape (on u r) in
      let l = c.not_full in
      answer_at a x (run_at u c.is_open c.unbroken) c.holds
      ∙ ap₂ (λ (d l : Bool). answered (leaving hs r a) x (on_frag d l (lost_at hs r.place)))
      (same_place_is r.place (next_due u) c.in_due) (ne_eqb (count u.blocks) u.more (omega arith))

  pub keeps : Keeps hs r → outcome_at hs r ≡ kept
  keeps c = ap (λ (y : Answer). y.outcome) (keeping_at c)

  -- The answer to an unfragmented header for this unit turns on the test for a copy.
  pub hands_at : (h : Header) (f : ℕ) (b : Bool) → r.heard ≡ unfragmented h f → h.for_us ≡ true
      → copied (rest_at hs r.place).near h.raw f ≡ b → let a = (rest_at hs r.place).assembly in
      outcome_at hs r ≡ outcome_of (cond b Copied Single) h.fields h.bits a.run.fields (a.joined ++ h.bits)
  hands_at h f b e w c =
      let s = rest_at hs r.place in
      let d = is_due s.assembly.run r.place in
      ap (λ (y : Answer). y.outcome) (answer_at s.assembly (unfragmented h f) refl e)
      ∙ ap₂ (λ (w b : Bool). (answered s (unfragmented h f) (on_unfragmented d w b (lost_at hs r.place))).outcome) w c

  pub singles : (g : Fields) (m : List Bool) → Singles hs r g m → outcome_at hs r ≡ single g m
  singles g m c =
      let h = c.header in
      let f = c.countdown in
      let no = untrue (copied (rest_at hs r.place).near h.raw f) (λ e. c.no_copy (copy_true hs r h f e)) in
      hands_at h f false c.holds c.for_us no ∙ ap₂ single (sym c.its_fields) (sym c.its_bits)

  pub copies : Copies hs r → outcome_at hs r ≡ copy
  copies c =
      let yes = copy_is hs r c.header c.countdown c.is_copy in
      hands_at c.header c.countdown true c.holds c.for_us yes

  pub opens : Opens r → outcome_at hs r ≡ opened
  opens c =
      let h = c.header in
      let x = fragmented h c.more c.countdown in
      let s = rest_at hs r.place in
      let a = s.assembly.run in
      let lost = lost_at hs r.place in
      let again : Bool → Bool = λ w. renews a w h.raw c.countdown in
      ap (λ (y : Answer). y.outcome) (answer_at s.assembly x refl c.holds)
      ∙ ap (λ (w : Bool). (answered s x (on_fragmented w (is_held a) (again w) lost)).outcome) c.for_us

  -- Nothing is told of what is not for this unit, and is not the block that is due.
  pub quiet_at : NotForUs r.heard → let a = (rest_at hs r.place).assembly.run in
      (is_due a r.place ≡ true → unfit (is_last a) r.heard ≡ true) → outcome_at hs r ≡ quiet
  unfolding answer
  quiet_at e k =
      let a = (rest_at hs r.place).assembly in
      let x = r.heard in
      ap (λ (n : code.Outcome). outcome_of n (header_in x).fields (bits_in x) a.run.fields (a.joined ++ bits_in x))
      (quiet_is (comes_at hs r) e k)

-- The dropped mark. A run's own header again, by its test; and not the block that is due.
module _ (u : Run) where
  pub repeat_is : (r : Report) (h : Header) (f : ℕ) → Repeats u r h f
      → renews (shape (on u r)).run h.for_us h.raw f ≡ true
  repeat_is r h f (w, a, b, c) =
      let n = left (suc u.countdown) (u.since ▸ r) in
      let e = repeats_is u.header.raw h.raw n f b (again_is u.countdown f (u.since ▸ r) c) in
      ap₂ ◌&&◌ w (ap₂ ◌&&◌ (eq-eqb (count u.blocks) 0 a) e)

  pub repeat_true : (r : Report) (h : Header) (f : ℕ) → renews (shape (on u r)).run h.for_us h.raw f ≡ true
      → Repeats u r h f
  repeat_true r h f e =
      let n = left (suc u.countdown) (u.since ▸ r) in
      let k = eqb (count u.blocks) 0 in
      let (w, e₁) = and_true h.for_us (k && repeats u.header.raw n h.raw f) e in
      let (a, e₂) = and_true k (repeats u.header.raw n h.raw f) e₁ in
      let (b, c) = repeats_true u.header.raw h.raw n f e₂ in
      (w, eqb-true (count u.blocks) 0 a, b, again_true u.countdown f (u.since ▸ r) c)

  unfit_true : (x : Heard) → unfit (is_last (shape u).run) x ≡ true → DueKind u x → ⊥
  unfit_true nothing e z = z
  unfit_true (fragmented h more f) e z = z
  unfit_true (unfragmented h f) e z = z
  unfit_true (frag b) e z = omega (arith, eqb-true (count u.blocks) u.more e, z)
  unfit_true (end b) e z = eqb-false (count u.blocks) u.more (not-true (is_last (shape u).run) e) z

  unfit_is : (x : Heard) → count u.blocks ≤ u.more → (DueKind u x → ⊥) → unfit (is_last (shape u).run) x ≡ true
  unfit_is nothing l z = refl
  unfit_is (fragmented h more f) l z = refl
  unfit_is (unfragmented h f) l z = refl
  unfit_is (frag b) l z = eq-eqb (count u.blocks) u.more (omega arith)
  unfit_is (end b) l z = ap not (ne_eqb (count u.blocks) u.more z)

drops_step : {hs : History} {q : Place} {n : List Near} {lost : Bool} {a : Assembly} {x : Heard} {v : Verdict}
    → Rests hs (report q x) a → (lost ≡ true → Drops hs (report q x)) → Comes a.run n q lost x v → v.dropped ≡ true
    → Drops hs (report q x)
drops_step i j (passing n d g) e = j e
drops_step none_rests j (missing n d w g) e = absurd_bool d
drops_step {q = q} {x = x} (run_rests u o k) j (missing n d w g) e =
    record { run = u; is_open = o; ends = missed (same_place_true q (next_due u) d) n (unfit_true u x w) }
drops_step i j (keeping b d l) e = j e
drops_step i j (closing b d l) e = j e
drops_step {lost = lost} none_rests j (heading {h} {more} {f} w i) e =
    j (sym (mark_is w false (renews no_run w h.raw f) lost) ∙ e)
drops_step {q = q} {lost = lost} (run_rests u o k) j (heading {h} {more} {f} w i) e =
    let r = report q (fragmented h more f) in
    let again : Bool → Bool = λ w. renews (shape (on u r)).run w h.raw f in
    let no = ap again i ∙ not-true (again w) (sym (mark_is w true (again w) lost) ∙ e) in
    record { run = u; is_open = o; ends = other_header h more f refl (λ y. absurd_bool (sym no ∙ repeat_is u r h f y)) }

module _ (hs : History) (r : Report) where
  drops_lost : (t : Bool) {a : Assembly} → in_turn (after hs).last r.place ≡ t → Holds hs a
      → broken_off t a.run ≡ true → Drops hs r
  drops_lost true k i e = absurd_bool e
  drops_lost false k none_held e = absurd_bool e
  drops_lost false k (run_held u o) e =
      record { run = u; is_open = o; ends = broken (λ b. absurd_bool (sym k ∙ turn_is hs r.place b)) }

  pub drops_true : dropped_at hs r ≡ true → Drops hs r
  unfolding answer
  drops_true e =
      let lost = drops_lost (in_turn (after hs).last r.place) refl (holds hs) in
      drops_step (rests_at hs r (holds hs)) lost (comes_at hs r) e

  -- The mark at a fragmented header, in turn, where a run is open.
  pub header_mark : (u : Run) (h : Header) (more f : ℕ) → IsOpen hs u → Unbroken hs r.place
      → r.heard ≡ fragmented h more f
      → dropped_at hs r ≡ not (renews (shape (on u r)).run h.for_us h.raw f)
  header_mark u h more f o k e =
      let a = shape (on u r) in
      ap (λ (y : Answer). y.dropped) (answer_at hs r a (fragmented h more f) (run_at hs r u o k) e)
      ∙ mark_is h.for_us true (renews a.run h.for_us h.raw f) (lost_at hs r.place)

  -- The other way round.
  dropping : (u : Run) (t : Bool) → IsOpen hs u → Ends hs u r → in_turn (after hs).last r.place ≡ t
      → dropped_at hs r ≡ true
  unfolding answer
  dropping u false o y e =
      lost_is (comes_at hs r) (ap (λ (t : Bool). is_held (older_run t r.place (after hs).assembly.run)) e)
      (ap₂ (λ (t : Bool) (a : Assembly). broken_off t a.run) e (found hs u o))
  dropping u true o (broken n) e = absurd (n (turn_true hs r.place e))
  dropping u true o (other_header h more f x n) e =
      header_mark u h more f o (turn_true hs r.place e) x
      ∙ ap not (untrue (renews (shape (on u r)).run h.for_us h.raw f) (λ z. n (repeat_true u r h f z)))
  dropping u true o (missed d n z) e =
      let q = r.place in
      let a = shape (on u r) in
      ap (λ (y : Answer). y.dropped) (answer_at hs r a r.heard (run_at hs r u o (turn_true hs q e)) refl)
      ∙ misses_is (comes a.run (rest_at hs q).near q (lost_at hs q) r.heard) n (same_place_is q (next_due u) d)
      (unfit_is u r.heard o.short z)

  pub drops_is : Drops hs r → dropped_at hs r ≡ true
  drops_is c = dropping c.run (in_turn (after hs).last r.place) c.is_open c.ends refl
