-- The open assembly of the state is the open run of the history, and the other way round. Assumes nothing.
use Prim.Native.Nat.{ℕ, suc, ◌+◌, ◌-◌, ◌≤◌}
use native.Mathlib.Omega.{arith}
use mathlib.Core.Path.{◌≡◌, refl, sym, ◌∙◌, ap, ap₂, subst, subst⁻¹}
use mathlib.Core.Bool.{Bool, true, false, cond, ◌&&◌}
use mathlib.Core.List.{List, [], ◌∷◌, ◌++◌}
use lib.Dec.{eqb}
use borrow.Author.Tests.{eqb-true, eqb-false, eq-eqb, ne_eqb}
use Rattle.history.specs.Line.{Line, start, ◌▸◌, ◌⧺◌, count, each, list, Every}
use Rattle.bits.proofs.Runs.{joined_append, join_none_right}
use Rattle.history.specs.Slots.{same_place, next, due, Header, Heard, fragmented, frag, Report}
use Rattle.store.specs.Store.{same_raw}
use Rattle.store.specs.declared.Raw.{Raw}
use Rattle.store.proofs.Blocks.{same_is, is_same}
use Rattle.history.specs.declared.Place.{Place}
use Rattle.history.specs.declared.Near.{Near}
use Rattle.history.specs.declared.Verdict.{Verdict}
use Rattle.history.specs.Step.{Assembly, State, no_assembly, in_turn, is_held, is_due, is_last, repeats, renews}
use Rattle.history.specs.Step.{wane, older, on_frag, on_fragmented, taking, opening, judged, changed, after, step}
use Rattle.history.specs.History.{History, final, InTurn, Unbroken, frames, dues, join, NotFragmented}
use Rattle.history.specs.History.{Run, IsOpen, next_due}
use Rattle.history.proofs.Verdicts.{absurd_bool, older_none, Comes, passing, missing, keeping, closing, heading}
use Rattle.history.proofs.Verdicts.{stays, comes, rest_at, lost_at, comes_at, rest}

-- Tests.
pub and_true : (a b : Bool) → (a && b) ≡ true → (a ≡ true) × (b ≡ true)
and_true true b e = (refl, e)
and_true false b e = absurd_bool e

pub same_place_true : (p q : Place) → same_place p q ≡ true → p ≡ q
same_place_true p q e =
    let h = and_true (eqb p.frame q.frame) (eqb p.slot q.slot) e in
    let f = eqb-true p.frame q.frame h.0 in
    let s = eqb-true p.slot q.slot h.1 in
    λ i. record { frame = f i; slot = s i }

pub same_place_is : (p q : Place) → p ≡ q → same_place p q ≡ true
same_place_is p q e =
    ap₂ ◌&&◌ (eq-eqb p.frame q.frame (λ i. (e i).frame)) (eq-eqb p.slot q.slot (λ i. (e i).slot))

pub turn_true : (hs : History) (q : Place) → in_turn (after hs).last q ≡ true → Unbroken hs q
unfolding after step
turn_true start q e = tt
turn_true (hs ▸ p) q e = same_place_true q (next p.place) e

pub turn_is : (hs : History) (q : Place) → Unbroken hs q → in_turn (after hs).last q ≡ true
unfolding after step
turn_is start q e = refl
turn_is (hs ▸ p) q e = same_place_is q (next p.place) e

-- What a report after a header, and others since, has to follow.
pub unbroken_on : (before since : History) (p : Report) (q : Place) → q ≡ next (final p.place since)
    → Unbroken ((before ▸ p) ⧺ since) q
unbroken_on before start p q e = e
unbroken_on before (since ▸ x) p q e = e

pub turns_on : {hs : History} (before since : History) (p : Report) (q : Place) → hs ≡ (before ▸ p) ⧺ since
    → Unbroken hs q → q ≡ next (final p.place since)
turns_on before start p q e k = subst (λ (l : History). Unbroken l q) e k
turns_on before (since ▸ x) p q e k = subst (λ (l : History). Unbroken l q) e k

pub count_each : {A B : Type 0} (f : A → B) (l : Line A) → count (each f l) ≡ count l
count_each f start = refl
count_each f (l ▸ x) = ap suc (count_each f l)

-- What is left of a number that falls by one with each frame, and the frames gone by.
abbrev pub left : ℕ → History → ℕ
left c start = c
left c (rs ▸ r) = wane r.place (left c rs)

left_is : (c : ℕ) (rs : History) → left c rs ≡ c - frames rs
left_is c start = omega arith
left_is c (rs ▸ r) = go (eqb r.place.slot 1) (left c rs) (frames rs) (left_is c rs)
  where
    go : (b : Bool) (m n : ℕ) → m ≡ c - n → cond b (m - 1) m ≡ c - cond b (suc n) n
    go true m n e = omega arith
    go false m n e = e

pub again_true : (c f : ℕ) (rs : History) → left (suc c) rs ≡ suc f → c ≡ f + frames rs
again_true c f rs e = omega (arith, e, left_is (suc c) rs)

pub again_is : (c f : ℕ) (rs : History) → c ≡ f + frames rs → left (suc c) rs ≡ suc f
again_is c f rs e = omega (arith, e, left_is (suc c) rs)

-- A header's repeat, by its test.
pub repeats_true : (a b : Raw) (n f : ℕ) → repeats a n b f ≡ true → (a ≡ b) × (n ≡ suc f)
repeats_true a b n f e =
    let h = and_true (same_raw a b) (eqb n (suc f)) e in
    (same_is a b h.0, eqb-true n (suc f) h.1)

pub repeats_is : (a b : Raw) (n f : ℕ) → a ≡ b → n ≡ suc f → repeats a n b f ≡ true
repeats_is a b n f e g = ap₂ ◌&&◌ (is_same a b e) (eq-eqb n (suc f) g)

-- The bits of a run with one block more.
pub join_more : (bits : List Bool) (bs : Line (List Bool)) (b : List Bool) → join bits (bs ▸ b) ≡ join bits bs ++ b
join_more bits bs b =
    joined_append (bits ∷ list bs) (b ∷ []) ∙ ap (λ (x : List Bool). join bits bs ++ x) (join_none_right b)

-- An assembly with these bits.
abbrev pub with_bits : Assembly → List Bool → Assembly
with_bits a j = record { run = a.run; joined = j }

-- The run as the receiver holds it.
abbrev pub shape : Run → Assembly
shape u =
    record {
      run =
          record {
            fields = u.header.fields;
            raw = u.header.raw;
            held = 1;
            again = left (suc u.countdown) u.since;
            more = u.more;
            frame = u.place.frame;
            countdown = u.countdown;
            kept = count u.blocks;
          };
      joined = join u.header.bits u.blocks;
    }

abbrev pub report : Place → Heard → Report
report q x = record { place = q; heard = x }

abbrev run : Header → ℕ → ℕ → Place → History → Line (List Bool) → Run
run h more f p since bs = record { header = h; more = more; countdown = f; place = p; since = since; blocks = bs }

-- The run with one report more, and these blocks.
abbrev pub grown : Run → Report → Line (List Bool) → Run
grown u r bs = run u.header u.more u.countdown u.place (u.since ▸ r) bs

abbrev pub on : Run → Report → Run
on u r = grown u r u.blocks

-- It is open where the report is not in the due slot and these are the blocks before, or it is and brings the last of
-- these.
pub grows : {hs : History} (u : Run) (r : Report) (b : Bool) (bs : Line (List Bool)) → IsOpen hs u
    → Unbroken hs r.place → NotFragmented r.heard → same_place r.place (next_due u) ≡ b
    → cond b (each frag u.blocks ▸ r.heard) (each frag u.blocks) ≡ each frag bs → count bs ≤ u.more
    → IsOpen (hs ▸ r) (grown u r bs)
grows u r b bs o k n e g l =
    let d : ℕ → Place = due u.place.frame u.countdown in
    let p = report u.place (fragmented u.header u.more u.countdown) in
    record {
      before = o.before;
      split = ap (λ (l : History). l ▸ r) o.split;
      for_us = o.for_us;
      latest = (o.latest, n);
      turns = (o.turns, turns_on o.before u.since p r.place o.split k);
      held =
          ap (λ (l : Line Heard). cond (same_place r.place (d (count l))) (l ▸ r.heard) l) o.held
          ∙ ap (λ (t : Bool). cond t (each frag u.blocks ▸ r.heard) (each frag u.blocks))
          (ap (λ (n : ℕ). same_place r.place (d n)) (count_each frag u.blocks) ∙ e)
          ∙ g;
      short = l;
    }

-- What the history has to say of the state's assembly, and of what is left of it when a report comes.
pub data Holds (hs : History) : Assembly → Type 0 where
  none_held : Holds hs no_assembly
  run_held : (u : Run) → IsOpen hs u → Holds hs (shape u)

pub data Rests (hs : History) (r : Report) : Assembly → Type 0 where
  none_rests : Rests hs r no_assembly
  run_rests : (u : Run) → IsOpen hs u → Unbroken hs r.place → Rests hs r (shape (on u r))

-- An open run, where its bits are these.
held_with : {hs : History} (u : Run) {j : List Bool} → IsOpen hs u → join u.header.bits u.blocks ≡ j
    → Holds hs (with_bits (shape u) j)
held_with {hs} u o e = subst (λ (j : List Bool). Holds hs (with_bits (shape u) j)) e (run_held u o)

rests : (hs : History) (r : Report) (t : Bool) {a : Assembly} → (t ≡ true → Unbroken hs r.place) → Holds hs a
    → Rests hs r (older t r.place a)
rests hs r t k none_held = subst⁻¹ (λ (a : Assembly). Rests hs r a) (older_none t r.place) none_rests
rests hs r false k (run_held u o) = none_rests
rests hs r true k (run_held u o) = run_rests u o (k refl)

pub rests_at : (hs : History) (r : Report) → Holds hs (after hs).assembly
    → Rests hs r (rest_at hs r.place).assembly
rests_at hs r = rests hs r (in_turn (after hs).last r.place) (turn_true hs r.place)

holds_step : {hs : History} {q : Place} {n : List Near} {lost : Bool} {a : Assembly} {x : Heard} {v : Verdict}
    → Rests hs (report q x) a → Comes a.run n q lost x v
    → Holds (hs ▸ report q x) (changed (rest q n a) q x v).assembly
holds_step none_rests (passing f d g) = none_held
holds_step {q = q} {x = x} (run_rests u o k) (passing f d g) =
    run_held (on u (report q x)) (grows u (report q x) false u.blocks o k f d refl o.short)
holds_step i (missing f d w g) = none_held
holds_step none_rests (keeping b d l) = absurd_bool d
holds_step {q = q} (run_rests u o k) (keeping b d l) =
    let r = report q (frag b) in
    let n = eqb-false (count u.blocks) u.more l in
    held_with (grown u r (u.blocks ▸ b)) (grows u r true (u.blocks ▸ b) o k refl d refl (omega (arith, o.short)))
    (join_more u.header.bits u.blocks b)
holds_step i (closing b d l) = none_held
holds_step i (heading false w) = none_held
holds_step {hs} {q} i (heading {h} {more} {f} true w) =
    held_with (run h more f q start start)
    (record { before = hs; split = refl; for_us = w; latest = tt; turns = tt; held = refl; short = omega arith })
    (join_none_right h.bits)

-- The state's assembly is an open run of the history.
pub holds : (hs : History) → Holds hs (after hs).assembly
unfolding after step
holds start = none_held
holds (hs ▸ r) = holds_step (rests_at hs r (holds hs)) (comes_at hs r)

-- The other way round: an open run of the history is the state's assembly.
abbrev pub At : History → Assembly → Type 0
At hs a = (after hs).assembly ≡ a

-- What is left of a known assembly at a report in turn, and what becomes of what is left.
pub left_at : (hs : History) (q : Place) {a : Assembly} → Unbroken hs q → At hs a
    → (rest_at hs q).assembly ≡ older true q a
left_at hs q k e = ap₂ (λ (t : Bool) (a : Assembly). older t q a) (turn_is hs q k) e

pub none_left : (hs : History) (q : Place) → At hs no_assembly → (rest_at hs q).assembly ≡ no_assembly
none_left hs q e = let t = in_turn (after hs).last q in ap (older t q) e ∙ older_none t q

abbrev pub leaving : History → Report → Assembly → State
leaving hs r a = rest r.place (rest_at hs r.place).near a

module _ (hs : History) (r : Report) (a : Assembly) (e : (rest_at hs r.place).assembly ≡ a) where
  pub known_at : (x : Heard) → r.heard ≡ x → let s = leaving hs r a in
      At (hs ▸ r) (changed s r.place x (judged s r.place x (lost_at hs r.place))).assembly
  unfolding after step
  known_at x g =
      let v : State → Heard → Verdict = λ s x. judged s r.place x (lost_at hs r.place) in
      ap₂ (λ (a : Assembly) (x : Heard). let s = leaving hs r a in (changed s r.place x (v s x)).assembly) e g

  pub stays_at : NotFragmented r.heard → is_due a.run r.place ≡ false → At (hs ▸ r) a
  stays_at n d =
      let q = r.place in
      known_at r.heard refl ∙ stays (comes a.run (rest_at hs q).near q (lost_at hs q) r.heard) n d

  pub takes_at : (b : List Bool) → r.heard ≡ frag b → is_due a.run r.place ≡ true → is_last a.run ≡ false
      → At (hs ▸ r) (record { run = taking a.run; joined = a.joined ++ b })
  takes_at b g d l =
      let v : Bool → Bool → Verdict = λ d l. on_frag d l (lost_at hs r.place) in
      known_at (frag b) g ∙ ap₂ (λ (d l : Bool). (changed (leaving hs r a) r.place (frag b) (v d l)).assembly) d l

-- A fragmented header opens one, or none where it is not for this unit.
module _ (hs : History) (r : Report) (h : Header) (more f : ℕ) (e : r.heard ≡ fragmented h more f) where
  headed : (w : Bool) → h.for_us ≡ w → let s = rest_at hs r.place in let a = s.assembly.run in
      let v = on_fragmented w (is_held a) (renews a w h.raw f) (lost_at hs r.place) in
      At (hs ▸ r) (changed s r.place (fragmented h more f) v).assembly
  headed w g =
      let s = rest_at hs r.place in
      let a = s.assembly.run in
      let v : Bool → Verdict = λ w. on_fragmented w (is_held a) (renews a w h.raw f) (lost_at hs r.place) in
      known_at hs r s.assembly refl (fragmented h more f) e
      ∙ ap (λ (w : Bool). (changed s r.place (fragmented h more f) (v w)).assembly) g

  pub opens_at : h.for_us ≡ true
      → At (hs ▸ r) (record { run = opening h.fields h.raw more r.place.frame f; joined = h.bits })
  opens_at = headed true

  pub drops_at : h.for_us ≡ false → At (hs ▸ r) no_assembly
  drops_at = headed false

module _ (h : Header) (more f : ℕ) (p : Place) where
  -- What the due slots held, and the state then.
  abbrev Found : History → History → Type 0
  Found hs rs =
      (bs : Line (List Bool)) → dues p.frame f rs ≡ each frag bs → count bs ≤ more
      → At hs (shape (run h more f p rs bs))

  one_more : (hs since : History) (r : Report) → Found hs since → Unbroken hs r.place → NotFragmented r.heard
      → (d : Bool) → same_place r.place (due p.frame f (count (dues p.frame f since))) ≡ d
      → (bs : Line (List Bool)) → cond d (dues p.frame f since ▸ r.heard) (dues p.frame f since) ≡ each frag bs
      → count bs ≤ more → At (hs ▸ r) (shape (run h more f p (since ▸ r) bs))
  one_more hs since r ih k n false e bs g l =
      let u = run h more f p since bs in
      let c : count (dues p.frame f since) ≡ count bs = ap count g ∙ count_each frag bs in
      stays_at hs r (shape (on u r)) (left_at hs r.place k (ih bs g l)) n (rw c at e)
  one_more hs since r ih k n true e start g l = let z : ◌≡◌ {A = ℕ} 0 1 = cc in absurd (omega arith)
  one_more hs since r ih k n true e (bs ▸ b) g l =
      let u = run h more f p since bs in
      let g₁ : dues p.frame f since ≡ each frag bs = cc in
      let c : count (dues p.frame f since) ≡ count bs = ap count g₁ ∙ count_each frag bs in
      takes_at hs r (shape (on u r)) (left_at hs r.place k (ih bs g₁ (omega arith))) b (cc) (rw c at e)
      (ne_eqb (count bs) more (omega arith))
      ∙ ap (with_bits (shape (run h more f p (since ▸ r) (bs ▸ b)))) (sym (join_more h.bits bs b))

  complete : (before since : History) → h.for_us ≡ true → Every (λ r. NotFragmented r.heard) since → InTurn p since
      → Found ((before ▸ report p (fragmented h more f)) ⧺ since) since
  complete before start w n t start g l =
      opens_at before (report p (fragmented h more f)) h more f refl w
      ∙ ap (with_bits (shape (run h more f p start start))) (sym (join_none_right h.bits))
  complete before start w n t (bs ▸ b) g l = let z : ◌≡◌ {A = ℕ} 0 1 = cc in absurd (omega arith)
  complete before (since ▸ r) w n t bs g l =
      let q = report p (fragmented h more f) in
      one_more ((before ▸ q) ⧺ since) since r (complete before since w n.0 t.0)
      (unbroken_on before since q r.place t.1) n.1
      (same_place r.place (due p.frame f (count (dues p.frame f since)))) refl bs g l

pub found : (hs : History) (u : Run) → IsOpen hs u → At hs (shape u)
found hs u o =
    subst⁻¹ (λ (l : History). At l (shape u)) o.split
    (complete u.header u.more u.countdown u.place o.before u.since o.for_us o.latest o.turns
    u.blocks o.held o.short)
