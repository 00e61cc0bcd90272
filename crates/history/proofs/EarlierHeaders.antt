-- The state's earlier headers are those of the history that a copy can still come of, and the other way round; so the
-- receiver's test for a copy is right. Assumes nothing.
use Prim.Native.Nat.{ℕ, suc, ◌-◌}
use native.Mathlib.Omega.{arith}
use mathlib.Core.Path.{◌≡◌, refl, sym, ◌∙◌, ap, ap₂, subst, subst⁻¹}
use mathlib.Core.Bool.{Bool, true, false, cond, not, ◌&&◌, ◌||◌}
use mathlib.Core.List.{List, [], ◌∷◌, ◌++◌}
use lib.Dec.{eqb}
use borrow.Author.Tests.{eqb-true, eqb-false, eq-eqb, ne_eqb}
use Rattle.history.specs.Line.{start, ◌▸◌, ◌⧺◌}
use Rattle.history.specs.Slots.{next, Header, Heard, nothing, fragmented, unfragmented, frag, end, Report}
use Rattle.history.specs.Slots.{header_in, countdown_in}
use Rattle.store.specs.Store.{same_raw}
use Rattle.store.specs.declared.Raw.{Raw}
use Rattle.store.proofs.Blocks.{same_is, is_same}
use Rattle.history.specs.declared.Place.{Place}
use Rattle.history.specs.declared.Near.{Near}
use Rattle.history.specs.Step.{in_turn, is_over, wane, fits, copied, older_near, near_of, fallen, near_after}
use Rattle.history.specs.Step.{step, after}
use Rattle.history.specs.History.{History, final, InTurn, Unbroken, Brings, NotFragmented, Earlier, IsEarlier}
use Rattle.history.specs.History.{Copy}
use Rattle.history.proofs.Verdicts.{absurd_bool, kept_in, near_is, rest_at, comes_at}
use Rattle.history.proofs.Turns.{slot_after}
use Rattle.history.proofs.OpenRun.{and_true, turn_true, turn_is, unbroken_on, turns_on, left, again_true}
use Rattle.history.proofs.OpenRun.{again_is}
use Rattle.history.proofs.OpenRun.{report}

-- ---- The test for a copy, over a list of earlier headers.

-- Each of them has the property.
abbrev Each : (Near → Type 0) → List Near → Type 0
Each P [] = Unit {0}
Each P (n ∷ ns) = P n × Each P ns

each_more : (P : Near → Type 0) (ns : List Near) (n : Near) → Each P ns → P n → Each P (ns ++ (n ∷ []))
each_more P [] n a b = (b, tt)
each_more P (m ∷ ns) n a b = (a.0, each_more P ns n a.1 b)

pub or_right : (a : Bool) → (a || true) ≡ true
or_right true = refl
or_right false = refl

or_on : (a b c : Bool) → (b ≡ true → c ≡ true) → (a || b) ≡ true → (a || c) ≡ true
or_on true b c h e = refl
or_on false b c h e = h e

pub copied_more : (ns ms : List Near) (raw : Raw) (f : ℕ) → copied ns raw f ≡ true → copied (ns ++ ms) raw f ≡ true
copied_more [] ms raw f e = absurd_bool e
copied_more (n ∷ ns) ms raw f e =
    or_on (fits n raw f) (copied ns raw f) (copied (ns ++ ms) raw f) (copied_more ns ms raw f) e

copied_last : (ns : List Near) (raw : Raw) (f : ℕ) → copied (ns ++ (near_of raw f ∷ [])) raw f ≡ true
copied_last [] raw f = ap₂ (λ (a b : Bool). (a && b) || false) (eq-eqb f f refl) (is_same raw raw refl)
copied_last (n ∷ ns) raw f = ap (λ (b : Bool). fits n raw f || b) (copied_last ns raw f) ∙ or_right (fits n raw f)

-- A frame on.
copied_after : (z : Bool) (n : Near) (ns : List Near) (raw : Raw) (f : ℕ) → copied ns raw f ≡ true
    → copied (cond z ns (n ∷ ns)) raw f ≡ true
copied_after true n ns raw f e = e
copied_after false n ns raw f e = ap (λ (b : Bool). fits n raw f || b) e ∙ or_right (fits n raw f)

fallen_on : (n : Near) (ns ms : List Near) (raw : Raw) (f : ℕ) (b : Bool) → fits n raw (suc f) ≡ b
    → (copied ns raw (suc f) ≡ true → copied ms raw f ≡ true) → (b || copied ns raw (suc f)) ≡ true
    → copied (cond (eqb n.countdown 0) ms (near_of n.raw (n.countdown - 1) ∷ ms)) raw f ≡ true
fallen_on n ns ms raw f true y h e =
    let (i, j) = and_true (eqb n.countdown (suc f)) (same_raw n.raw raw) y in
    let c = eqb-true n.countdown (suc f) i in
    rw (ne_eqb n.countdown 0 (omega arith), eq-eqb (n.countdown - 1) f (omega arith), j) refl
fallen_on n ns ms raw f false y h e =
    copied_after (eqb n.countdown 0) (near_of n.raw (n.countdown - 1)) ms raw f (h e)

copied_fallen : (ns : List Near) (raw : Raw) (f : ℕ) → copied ns raw (suc f) ≡ true → copied (fallen ns) raw f ≡ true
copied_fallen [] raw f e = absurd_bool e
copied_fallen (n ∷ ns) raw f e =
    fallen_on n ns (fallen ns) raw f (fits n raw (suc f)) refl (copied_fallen ns raw f) e

-- What the test has found.
record Found (P : Near → Type 0) (raw : Raw) (f : ℕ) : Type 0 where
  near : Near
  has : P near
  same : near.raw ≡ raw
  counted : near.countdown ≡ f

found_first : (P : Near → Type 0) (n : Near) (raw : Raw) (f : ℕ) (b c : Bool) → P n → fits n raw f ≡ b
    → (c ≡ true → Found P raw f) → (b || c) ≡ true → Found P raw f
found_first P n raw f true c a y h e =
    let (i, j) = and_true (eqb n.countdown f) (same_raw n.raw raw) y in
    record { near = n; has = a; same = same_is n.raw raw j; counted = eqb-true n.countdown f i }
found_first P n raw f false c a y h e = h e

copied_found : (P : Near → Type 0) (ns : List Near) (raw : Raw) (f : ℕ) → Each P ns → copied ns raw f ≡ true
    → Found P raw f
copied_found P [] raw f a e = absurd_bool e
copied_found P (n ∷ ns) raw f a e =
    found_first P n raw f (fits n raw f) (copied ns raw f) a.0 refl (copied_found P ns raw f a.1) e

-- ---- The slot next in turn.

-- One frame less is left there where it is in a new frame.
wane_next : (p : Place) (n : ℕ) → wane (next p) n ≡ cond (is_over p) (n - 1) n
wane_next p n = go (eqb p.slot 1)
  where
    go : (b : Bool) → wane (slot_after b p.frame) n ≡ cond (not b) (n - 1) n
    go true = refl
    go false = refl

-- ---- One step of the state.

module _ (hs : History) (r : Report) where
  abbrev resting : List Near
  resting = (rest_at hs r.place).near

  abbrev brought : Near
  brought = near_of (header_in r.heard).raw (countdown_in r.heard)

  -- The earlier headers with the report's own.
  abbrev heard_now : List Near
  heard_now = cond (kept_in resting r.heard) (resting ++ (brought ∷ [])) resting

  near_step : (after (hs ▸ r)).near ≡ cond (is_over r.place) (fallen heard_now) heard_now
  unfolding after step
  near_step = ap (λ (w : Bool). near_after (is_over r.place) w brought resting) (near_is (comes_at hs r))

-- ---- Each header of the state is one of the history.

abbrev earlier : Header → ℕ → History → Earlier
earlier h f since = record { header = h; countdown = f; since = since }

-- So many frames and one more are left of it at the last report.
record Holds (hs : History) (left_then : ℕ → Type 0) (raw : Raw) : Type 0 where
  from : Earlier
  is_earlier : IsEarlier hs from
  alike : NotFragmented is_earlier.report.heard
  same : from.header.raw ≡ raw
  counted : left_then (left (suc from.countdown) from.since)

-- As of the last report, and as of the slot next in turn.
abbrev HoldsNow : History → Near → Type 0
HoldsNow hs n = Holds hs (λ l. l ≡ suc n.countdown) n.raw

abbrev HoldsNext : History → Near → Type 0
HoldsNext hs n = Holds hs (λ l. (q : Place) → Unbroken hs q → wane q l ≡ suc n.countdown) n.raw

holds_on : (hs : History) (r : Report) → Unbroken hs r.place → (ns : List Near) → Each (HoldsNext hs) ns
    → Each (HoldsNow (hs ▸ r)) ns
holds_on hs r k [] a = tt
holds_on hs r k (n ∷ ns) a =
    let x = a.0 in
    let e = x.from in
    let o = x.is_earlier in (
      record {
        from = earlier e.header e.countdown (e.since ▸ r);
        is_earlier =
            record {
              before = o.before;
              report = o.report;
              split = ap (λ (l : History). l ▸ r) o.split;
              brings = o.brings;
              turns = (o.turns, turns_on o.before e.since o.report r.place o.split k);
            };
        alike = x.alike;
        same = x.same;
        counted = x.counted r.place k;
      },
      holds_on hs r k ns a.1,
    )

holds_left : (hs : History) (r : Report) (t : Bool) (ns : List Near) → (t ≡ true → Unbroken hs r.place)
    → Each (HoldsNext hs) ns → Each (HoldsNow (hs ▸ r)) (older_near t ns)
holds_left hs r false ns k a = tt
holds_left hs r true ns k a = holds_on hs r (k refl) ns a

-- The report's own.
holds_brought : (hs : History) (x : Heard) (q : Place) (ns : List Near) → kept_in ns x ≡ true
    → HoldsNow (hs ▸ report q x) (near_of (header_in x).raw (countdown_in x))
holds_brought hs nothing q ns e = absurd_bool e
holds_brought hs (fragmented h more f) q ns e = absurd_bool e
holds_brought hs (unfragmented h f) q ns e =
    let r = report q (unfragmented h f) in
    let w = (and_true h.for_us (not (copied ns h.raw f)) e).0 in
    record {
      from = earlier h f start;
      is_earlier = record { before = hs; report = r; split = refl; brings = (refl, refl, w); turns = tt };
      alike = refl;
      same = refl;
      counted = refl;
    }
holds_brought hs (frag b) q ns e = absurd_bool e
holds_brought hs (end b) q ns e = absurd_bool e

holds_now : (hs : History) (r : Report) (ns : List Near) (w : Bool) → kept_in ns r.heard ≡ w
    → Each (HoldsNow (hs ▸ r)) ns
    → Each (HoldsNow (hs ▸ r)) (cond w (ns ++ (near_of (header_in r.heard).raw (countdown_in r.heard) ∷ [])) ns)
holds_now hs r ns false e a = a
holds_now hs r ns true e a =
    each_more (HoldsNow (hs ▸ r)) ns _ a (holds_brought hs r.heard r.place ns e)

-- In the slot next in turn: the same, and where that is in a new frame what has fallen.
module _ (hs : History) (r : Report) where
  next_one : (n : Near) (c : ℕ) → cond (is_over r.place) (suc n.countdown - 1) (suc n.countdown) ≡ suc c
      → HoldsNow (hs ▸ r) n → HoldsNext (hs ▸ r) (near_of n.raw c)
  next_one n c e x =
      record {
        from = x.from;
        is_earlier = x.is_earlier;
        alike = x.alike;
        same = x.same;
        counted = λ q k. rw (k, x.counted) (wane_next r.place (suc n.countdown) ∙ e);
      }

  next_same : (ns : List Near) → is_over r.place ≡ false → Each (HoldsNow (hs ▸ r)) ns → Each (HoldsNext (hs ▸ r)) ns
  next_same [] o a = tt
  next_same (n ∷ ns) o a = (next_one n n.countdown (rw o refl) a.0, next_same ns o a.1)

  one_fallen : (n : Near) (ns : List Near) (z : Bool) → eqb n.countdown 0 ≡ z → is_over r.place ≡ true
      → HoldsNow (hs ▸ r) n → Each (HoldsNext (hs ▸ r)) ns
      → Each (HoldsNext (hs ▸ r)) (cond z ns (near_of n.raw (n.countdown - 1) ∷ ns))
  one_fallen n ns true e o x a = a
  one_fallen n ns false e o x a =
      let z = eqb-false n.countdown 0 e in
      let y : suc n.countdown - 1 ≡ suc (n.countdown - 1) = omega arith in
      (next_one n (n.countdown - 1) (rw o y) x, a)

  next_fallen : (ns : List Near) → is_over r.place ≡ true → Each (HoldsNow (hs ▸ r)) ns
      → Each (HoldsNext (hs ▸ r)) (fallen ns)
  next_fallen [] o a = tt
  next_fallen (n ∷ ns) o a =
      one_fallen n (fallen ns) (eqb n.countdown 0) refl o a.0 (next_fallen ns o a.1)

  holds_next : (ns : List Near) (o : Bool) → is_over r.place ≡ o → Each (HoldsNow (hs ▸ r)) ns
      → Each (HoldsNext (hs ▸ r)) (cond o (fallen ns) ns)
  holds_next ns true e a = next_fallen ns e a
  holds_next ns false e a = next_same ns e a

holds : (hs : History) → Each (HoldsNext hs) (after hs).near
unfolding after
holds start = tt
holds (hs ▸ r) =
    let ns = resting hs r in
    let t = in_turn (after hs).last r.place in
    let a = holds_left hs r t (after hs).near (turn_true hs r.place) (holds hs) in
    subst⁻¹ (λ (l : List Near). Each (HoldsNext (hs ▸ r)) l) (near_step hs r)
    (holds_next hs r (heard_now hs r) (is_over r.place) refl (holds_now hs r ns (kept_in ns r.heard) refl a))

-- ---- The other way round: a header of the history that a copy can still come of is found in the state.

-- Whatever is heard, what was found before is found.
found_still : (w : Bool) (ns ms : List Near) (raw : Raw) (f : ℕ) → copied ns raw f ≡ true
    → copied (cond w (ns ++ ms) ns) raw f ≡ true
found_still true ns ms raw f e = copied_more ns ms raw f e
found_still false ns ms raw f e = e

-- In the slot next in turn.
found_next : (ns : List Near) (raw : Raw) (o : Bool) (c f : ℕ) → copied ns raw c ≡ true
    → cond o (suc c - 1) (suc c) ≡ suc f → copied (cond o (fallen ns) ns) raw f ≡ true
found_next ns raw true c f e g =
    let y : c ≡ suc f = omega arith in copied_fallen ns raw f (rw y at e)
found_next ns raw false c f e g = let y : c ≡ f = omega arith in rw y at e

-- The header's own report: it is there already, or it is one more.
found_new : (w : Bool) (ns : List Near) (raw : Raw) (f : ℕ) → copied ns raw f ≡ w
    → copied (cond (not w) (ns ++ (near_of raw f ∷ [])) ns) raw f ≡ true
found_new true ns raw f e = e
found_new false ns raw f e = copied_last ns raw f

kept_is : (ns : List Near) (x : Heard) (h : Header) (f : ℕ) → Brings x h f → NotFragmented x
    → kept_in ns x ≡ not (copied ns h.raw f)
kept_is ns nothing h f (a, b, w) n = absurd_bool (ap (λ (h : Header). h.for_us) a ∙ w)
kept_is ns (fragmented y more g) h f b n = absurd_bool (sym n)
kept_is ns (unfragmented y g) h f (a, b, w) n =
    ap₂ (λ (y : Header) (g : ℕ). y.for_us && not (copied ns y.raw g)) a b
    ∙ ap (λ (w : Bool). w && not (copied ns h.raw f)) w
kept_is ns (frag y) h f (a, b, w) n = absurd_bool (ap (λ (h : Header). h.for_us) a ∙ w)
kept_is ns (end y) h f (a, b, w) n = absurd_bool (ap (λ (h : Header). h.for_us) a ∙ w)

-- What is found with a report is found in the slot next in turn, where it has not run out.
found_on : (hs : History) (r : Report) (raw : Raw) (c f : ℕ) → copied (heard_now hs r) raw c ≡ true → (q : Place)
    → q ≡ next r.place → wane q (suc c) ≡ suc f → copied (after (hs ▸ r)).near raw f ≡ true
found_on hs r raw c f e q k g =
    let y = sym (wane_next r.place (suc c)) ∙ ap (λ (z : Place). wane z (suc c)) (sym k) ∙ g in
    ap (λ (ns : List Near). copied ns raw f) (near_step hs r)
    ∙ found_next (heard_now hs r) raw (is_over r.place) c f e y

wane_left : (b : Bool) (m g : ℕ) → cond b (m - 1) m ≡ suc g → m ≡ suc (m - 1)
wane_left true m g e = omega arith
wane_left false m g e = omega arith

module _ (h : Header) (f : ℕ) (p : Report) (before : History) (b : Brings p.heard h f) (n : NotFragmented p.heard)
  where
    -- its own report: it is there already, or it is one more
    found_own : copied (heard_now before p) h.raw f ≡ true
    found_own =
        let ns = resting before p in
        rw (kept_is ns p.heard h f b n, b.0, b.1) (found_new (copied ns h.raw f) ns h.raw f refl)

    found_since : (since : History) → InTurn p.place since → (q : Place) (g : ℕ) → q ≡ next (final p.place since)
        → wane q (left (suc f) since) ≡ suc g → copied (after ((before ▸ p) ⧺ since)).near h.raw g ≡ true
    found_since start t q g k e = found_on before p h.raw f g found_own q k e
    found_since (since ▸ r) t q g k e =
        let hs = (before ▸ p) ⧺ since in
        let m = left (suc f) (since ▸ r) in
        let y = wane_left (eqb q.slot 1) m g e in
        let ns = (after hs).near in
        let i : in_turn (after hs).last r.place ≡ true =
        turn_is hs r.place (unbroken_on before since p r.place t.1) in
        let c : copied (resting hs r) h.raw (m - 1) ≡ true =
        ap (λ (t : Bool). copied (older_near t ns) h.raw (m - 1)) i
        ∙ found_since since t.0 r.place (m - 1) t.1 y in
        found_on hs r h.raw (m - 1) g
        (found_still (kept_in (resting hs r) r.heard) (resting hs r) (brought hs r ∷ []) h.raw (m - 1) c) q k
        (ap (wane q) (sym y) ∙ e)

-- ---- The receiver's test for a copy.

module _ (hs : History) (r : Report) (h : Header) (f : ℕ) where
  pub copy_true : copied (rest_at hs r.place).near h.raw f ≡ true → Copy hs r h f
  copy_true = go (in_turn (after hs).last r.place) (turn_true hs r.place)
    where
      go : (t : Bool) → (t ≡ true → Unbroken hs r.place) → copied (older_near t (after hs).near) h.raw f ≡ true
          → Copy hs r h f
      go false k e = absurd_bool e
      go true k e =
          let x = copied_found (HoldsNext hs) (after hs).near h.raw f (holds hs) e in
          let y = x.has in
          let c = y.counted r.place (k refl) ∙ ap suc x.counted in
          record {
            earlier = y.from;
            is_earlier = y.is_earlier;
            unbroken = k refl;
            alike = y.alike;
            same = y.same ∙ x.same;
            counted = again_true y.from.countdown f (y.from.since ▸ r) c;
          }

  pub copy_is : Copy hs r h f → copied (rest_at hs r.place).near h.raw f ≡ true
  copy_is c =
      let e = c.earlier in
      let o = c.is_earlier in
      let k = turns_on o.before e.since o.report r.place o.split c.unbroken in
      let g = again_is e.countdown f (e.since ▸ r) c.counted in
      let d =
      found_since e.header e.countdown o.report o.before o.brings c.alike e.since o.turns
      r.place f k g in
      ap (λ (t : Bool). copied (older_near t (after hs).near) h.raw f) (turn_is hs r.place c.unbroken)
      ∙ subst⁻¹ (λ (l : History). copied (after l).near h.raw f ≡ true) o.split
      (subst (λ (w : Raw). copied (after ((o.before ▸ o.report) ⧺ e.since)).near w f ≡ true) c.same d)
