-- Each verdict, with what the report brings and what is open where it is given. Assumes nothing.
use Prim.Native.Nat.{ℕ}
use native.Mathlib.Omega.{arith}
use mathlib.Core.Path.{◌≡◌, refl, sym, ◌∙◌, ap, ap₂}
use mathlib.Core.Bool.{Bool, true, false, cond, not, ◌&&◌}
use mathlib.Core.List.{List}
use mathlib.Core.Option.{some}
use lib.Dec.{eqb}
use Rattle.history.specs.Slots.{Report, Header, Heard, nothing, fragmented, unfragmented, frag, end}
use Rattle.history.specs.Slots.{what_in, header_in, countdown_in}
use Rattle.history.specs.declared.Place.{Place}
use Rattle.history.specs.declared.Near.{Near}
use Rattle.history.specs.declared.Open.{Open}
use Rattle.history.specs.declared.Verdict.{Verdict}
use Rattle.history.specs.declared.Act.TheVariants.{Stays, Ends, Takes}
use Rattle.history.specs.declared.Outcome as code
use Rattle.history.specs.declared.Outcome.TheVariants.{Quiet, Single, Joined, Kept, Copied}
use Rattle.history.specs.Step.{Assembly, State, no_run, no_assembly, older, is_held, is_due, copied}
use Rattle.history.specs.Step.{is_last, renews, verdict, on_nothing, on_unfragmented, on_frag, on_end}
use Rattle.history.specs.Step.{on_fragmented, judge, changed, in_turn, broken_off, aged, verdict_at, after}
use Rattle.history.specs.History.{History, NotFragmented, NotForUs}

pub absurd_bool : {A : Type 0} → false ≡ true → A
absurd_bool e = let z : ◌≡◌ {A = ℕ} 0 1 = cc in absurd (omega arith)

-- What is not there stays so.
wane_none : (b : Bool) → ◌≡◌ {A = ℕ} (cond b 0 0) 0
wane_none true = refl
wane_none false = refl

pub older_none : (t : Bool) (q : Place) → older t q no_assembly ≡ no_assembly
older_none false q = refl
older_none true q = rw (wane_none (eqb q.slot 1)) refl

-- Not the block that a due slot is to hold, the last one or another.
abbrev pub unfit : Bool → Heard → Bool
unfit last nothing = true
unfit last (fragmented h more f) = true
unfit last (unfragmented h f) = true
unfit last (frag b) = last
unfit last (end b) = not last

-- What is answered to an unfragmented header, and whether it is one more that copies can come of.
pub data Hands (ns : List Near) : Heard → code.Outcome → Bool → Type 0 where
  no_hand : {x : Heard} → NotForUs x → Hands ns x Quiet false
  hand : {h : Header} {f : ℕ} (c : Bool) → h.for_us ≡ true → copied ns h.raw f ≡ c
      → Hands ns (unfragmented h f) (cond c Copied Single) (not c)

-- What a report in slot q comes to.
pub data Comes (a : Open) (n : List Near) (q : Place) (lost : Bool) : Heard → Verdict → Type 0 where
  passing : {x : Heard} {o : code.Outcome} {near : Bool} → NotFragmented x → is_due a q ≡ false → Hands n x o near
      → Comes a n q lost x (verdict o lost Stays near)
  missing : {x : Heard} {o : code.Outcome} {near : Bool} → NotFragmented x → is_due a q ≡ true
      → unfit (is_last a) x ≡ true
      → Hands n x o near → Comes a n q lost x (verdict o true Ends near)
  keeping : (b : List Bool) → is_due a q ≡ true → is_last a ≡ false
      → Comes a n q lost (frag b) (verdict Kept lost Takes false)
  closing : (b : List Bool) → is_due a q ≡ true → is_last a ≡ true
      → Comes a n q lost (end b) (verdict Joined lost Ends false)
  heading : {h : Header} {more f : ℕ} (w : Bool) → h.for_us ≡ w
      → Comes a n q lost (fragmented h more f) (on_fragmented w (is_held a) (renews a w h.raw f) lost)

module _ (a : Open) (n : List Near) (q : Place) (lost : Bool) where
  pub comes : (x : Heard)
      → Comes a n q lost x (judge (what_in x) a n q (header_in x).for_us (header_in x).raw (countdown_in x) lost)
  comes nothing = go (is_due a q) refl
    where
      go : (d : Bool) → is_due a q ≡ d → Comes a n q lost nothing (on_nothing d lost)
      go true e = missing refl e refl (no_hand refl)
      go false e = passing refl e (no_hand refl)
  comes (fragmented h more f) = heading h.for_us refl
  comes (unfragmented h f) = go (is_due a q) h.for_us (copied n h.raw f) refl refl refl
    where
      go : (d w c : Bool) → is_due a q ≡ d → h.for_us ≡ w → copied n h.raw f ≡ c
          → Comes a n q lost (unfragmented h f) (on_unfragmented d w c lost)
      go true true c e w k = missing refl e refl (hand c w k)
      go false true c e w k = passing refl e (hand c w k)
      go true false c e w k = missing refl e refl (no_hand w)
      go false false c e w k = passing refl e (no_hand w)
  comes (frag b) = go (is_due a q) (is_last a) refl refl
    where
      go : (d l : Bool) → is_due a q ≡ d → is_last a ≡ l → Comes a n q lost (frag b) (on_frag d l lost)
      go true true e l = missing refl e l (no_hand refl)
      go true false e l = keeping b e l
      go false l e e' = passing refl e (no_hand refl)
  comes (end b) = go (is_due a q) (is_last a) refl refl
    where
      go : (d l : Bool) → is_due a q ≡ d → is_last a ≡ l → Comes a n q lost (end b) (on_end d l lost)
      go true true e l = closing b e l
      go true false e l = missing refl e (ap not l) (no_hand refl)
      go false l e e' = passing refl e (no_hand refl)

-- An unfragmented header for this unit that is no copy is one more that copies can come of.
abbrev pub kept_in : List Near → Heard → Bool
kept_in n nothing = false
kept_in n (fragmented h more f) = false
kept_in n (unfragmented h f) = h.for_us && not (copied n h.raw f)
kept_in n (frag b) = false
kept_in n (end b) = false

not_kept : (n : List Near) (x : Heard) → NotForUs x → false ≡ kept_in n x
not_kept n nothing w = refl
not_kept n (fragmented h more f) w = refl
not_kept n (unfragmented h f) w = ap (λ (m : Bool). m && not (copied n h.raw f)) (sym w)
not_kept n (frag b) w = refl
not_kept n (end b) w = refl

hands_near : {n : List Near} {x : Heard} {o : code.Outcome} {near : Bool} → Hands n x o near → near ≡ kept_in n x
hands_near {n} {x} (no_hand w) = not_kept n x w
hands_near (hand c w e) = ap₂ (λ (m c : Bool). m && not c) (sym w) (sym e)

-- A fragmented header's mark is the same whether it is for this unit or not.
pub mark_is : (w held renewed lost : Bool) → (on_fragmented w held renewed lost).dropped ≡ cond held (not renewed) lost
mark_is true held renewed lost = refl
mark_is false held renewed lost = refl

module _ {a : Open} {n : List Near} {q : Place} {lost : Bool} where
  -- Whatever else the report comes to, that is so.
  pub near_is : {x : Heard} {v : Verdict} → Comes a n q lost x v → v.near ≡ kept_in n x
  near_is (passing f d g) = hands_near g
  near_is (missing f d u g) = hands_near g
  near_is (keeping b d l) = refl
  near_is (closing b d l) = refl
  near_is (heading true w) = refl
  near_is (heading false w) = refl

  -- The mark where an assembly was broken off, and where a due slot does not hold its block.
  pub lost_is : {x : Heard} {v : Verdict} → Comes a n q lost x v → is_held a ≡ false → lost ≡ true → v.dropped ≡ true
  lost_is (passing f d g) e l = l
  lost_is (missing f d w g) e l = refl
  lost_is (keeping b d k) e l = l
  lost_is (closing b d k) e l = l
  lost_is (heading {h} {more} {f} w i) e l =
      let again = renews a w h.raw f in
      mark_is w (is_held a) again lost ∙ ap₂ (λ (b l : Bool). cond b (not again) l) e l

  pub misses_is : {x : Heard} {v : Verdict} → Comes a n q lost x v → NotFragmented x → is_due a q ≡ true
      → unfit (is_last a) x ≡ true → v.dropped ≡ true
  misses_is (passing f d g) k e u = absurd_bool (sym d ∙ e)
  misses_is (missing f d w g) k e u = refl
  misses_is (keeping b d l) k e u = absurd_bool (sym l ∙ u)
  misses_is (closing b d l) k e u = absurd_bool (sym (ap not l) ∙ u)
  misses_is (heading w i) k e u = absurd_bool (sym k)

  -- Nothing is told of what is not for this unit, and is not the block that is due.
  pub quiet_is : {x : Heard} {v : Verdict} → Comes a n q lost x v → NotForUs x
      → (is_due a q ≡ true → unfit (is_last a) x ≡ true) → v.outcome ≡ Quiet
  quiet_is (passing f d (no_hand w)) e k = refl
  quiet_is (passing f d (hand c w i)) e k = absurd_bool (sym e ∙ w)
  quiet_is (missing f d u (no_hand w)) e k = refl
  quiet_is (missing f d u (hand c w i)) e k = absurd_bool (sym e ∙ w)
  quiet_is (keeping b d l) e k = absurd_bool (sym l ∙ k d)
  quiet_is (closing b d l) e k = absurd_bool (sym (ap not l) ∙ k d)
  quiet_is (heading true w) e k = absurd_bool (sym e ∙ w)
  quiet_is (heading false w) e k = refl

-- What is left of a state when a report comes, and whether an assembly was broken off.
abbrev pub rest : Place → List Near → Assembly → State
rest q n a = record { last = some q; near = n; assembly = a }

abbrev pub rest_at : History → Place → State
rest_at hs q = aged (after hs) q

abbrev pub lost_at : History → Place → Bool
lost_at hs q = broken_off (in_turn (after hs).last q) (after hs).assembly.run

-- A report with no fragmented header, not in the due slot, leaves the assembly as it is.
pub stays : {a : Assembly} {n : List Near} {q : Place} {lost : Bool} {x : Heard} {v : Verdict}
    → Comes a.run n q lost x v → NotFragmented x → is_due a.run q ≡ false
    → (changed (rest q n a) q x v).assembly ≡ a
stays (passing f d g) k e = refl
stays (missing f d w g) k e = absurd_bool (sym e ∙ d)
stays (keeping b d l) k e = absurd_bool (sym e ∙ d)
stays (closing b d l) k e = absurd_bool (sym e ∙ d)
stays (heading w i) k e = absurd_bool (sym k)

-- What is not for this unit opens none.
pub opens_none : {n : List Near} {q : Place} {lost : Bool} {x : Heard} {v : Verdict} → Comes no_run n q lost x v
    → NotForUs x → (changed (rest q n no_assembly) q x v).assembly ≡ no_assembly
opens_none (passing f d g) e = refl
opens_none (missing f d w g) e = refl
opens_none (keeping b d l) e = absurd_bool d
opens_none (closing b d l) e = refl
opens_none (heading true w) e = absurd_bool (sym e ∙ w)
opens_none (heading false w) e = refl

pub comes_at : (hs : History) (r : Report) → let s = rest_at hs r.place in
    Comes s.assembly.run s.near r.place (lost_at hs r.place) r.heard (verdict_at (after hs) r)
comes_at hs r =
    let s = rest_at hs r.place in
    comes s.assembly.run s.near r.place (lost_at hs r.place) r.heard
