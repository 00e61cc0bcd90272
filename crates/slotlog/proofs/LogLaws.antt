-- The laws of a log's records. Assumes nothing.
use mathlib.Core.Path.{◌≡◌, refl, sym, ap, ap₂, ◌∙◌}
use mathlib.Core.Bool.{Bool, true, false, cond, ◌&&◌}
use mathlib.Core.List.{List, [], ◌∷◌, ◌++◌}
use mathlib.Core.Logic.{◌⊎◌, inl, inr, ⊎_elim}
use Prim.Native.Nat.{ℕ, zero, suc, ◌+◌, ◌-◌, ◌*◌, ◌≤◌, ◌<◌}
use native.Mathlib.Omega.{arith}
use lib.Dec.{eqb, leb, ltb, lit<}
use lib.ListN.{length, take, drop, length-append, length-drop, get_or-append}
use lib.Seq.{length-take-le, take-append-le, drop-append-le}
use borrow.Author.Tests.{leb-true, eqb-true, eqb-false, ltb-true, ltb-false, eq-eqb, ne_eqb, lt-ltb, le-ltb}
use Rattle.std.specs.Prelude.{Result, Ok, Err, MatchResult}
use Rattle.blocks.specs.declared.fault.Fault.TheVariants.{Range}
use Rattle.records.specs.Numbers.{two_at}
use Rattle.reports.specs.Lent.{Lent, brought}
use Rattle.slotlog.specs.Log.{body_of, is_report, whole_of, next_in, report_in, is_first, Entry, report, other, cut}
use Rattle.slotlog.specs.Log.{entry, entries_for, entries, Beginning, begun}
use Rattle.slotlog.specs.declared.log.Begun.{Begun}
use Rattle.slotlog.specs.declared.log.NotBegun.{NotBegun}
use Rattle.slotlog.specs.declared.log.Next.{Next}
use Rattle.slotlog.specs.declared.log.Next.TheVariants.{End, Part, Cut, Other, Report}

pub and_first : (a b : Bool) → (a && b) ≡ true → a ≡ true
and_first true b e = refl
and_first false b e = e

and_second : (a b : Bool) → (a && b) ≡ true → b ≡ true
and_second true b e = e
and_second false b e = let z : ◌≡◌ {A = ℕ} 0 1 = cc in absurd (omega arith)

-- a first record has 16 bytes
pub first_long : (w : List ℕ) → is_first w ≡ true → 16 ≤ length w
first_long w e = leb-true 16 (length w) (and_first (leb 16 (length w)) (eqb (two_at w 0) 14 && eqb (two_at w 2) 0) e)

-- what is answered of it, by whether its fault is 0
abbrev pub begun_lem : Bool → Beginning → Result Begun NotBegun
begun_lem c x =
    let b : Begun = record { took = x.took; receiver = x.receiver } in
    cond c (Ok b) (Err (record { fault = Range; begun = b }))

-- what the first record takes, of either answer
pub took_begun : (x : Beginning) (k : ℕ) → MatchResult (begun x) (λ b. k ≡ b.took) (λ e. k ≡ e.begun.took) → k ≡ x.took
took_begun x k = when (eqb x.fault 0)
  where
    when : (c : Bool) → MatchResult (begun_lem c x) (λ b. k ≡ b.took) (λ e. k ≡ e.begun.took) → k ≡ x.took
    when true h = h
    when false h = h

-- ---- what a record that was found takes

-- a record that is all there; one that is there as far as it matters
abbrev Sized : Next → Type 0
Sized End = ⊥
Sized Part = ⊥
Sized Cut = ⊥
Sized (Other n) = Unit {0}
Sized (Report n) = Unit {0}

abbrev Ready : Next → Type 0
Ready End = ⊥
Ready Part = ⊥
Ready Cut = Unit {0}
Ready (Other n) = Unit {0}
Ready (Report n) = Unit {0}

abbrev Whole : List ℕ → Type 0
Whole w = (2 ≤ two_at w 0) × (two_at w 0 + 2 ≤ length w)

abbrev Left : ℕ → Next → Type 0
Left n End = n ≡ 0
Left n Part = 1 ≤ n
Left n Cut = Unit {0}
Left n (Other k) = Unit {0}
Left n (Report k) = Unit {0}

whole_left : (n : ℕ) (a b : Bool) (m : ℕ) → Left n (cond a Cut (cond b (Report m) (Other m)))
whole_left n true b m = tt
whole_left n false true m = tt
whole_left n false false m = tt

module _ (w : List ℕ) where
  -- the tests of `next_in`
  abbrev chosen : Bool → Bool → Bool → Bool → Next
  chosen a b c d = cond a End (cond b Part (cond c Cut (cond d Part (whole_of (two_at w 2) (two_at w 0 - 2)))))

  ready_when : (a b c d : Bool) → ltb (length w) 2 ≡ b → ltb (two_at w 0) 2 ≡ c → ltb (length w) (two_at w 0 + 2) ≡ d
      → Ready (chosen a b c d)
      → (2 ≤ length w) × ((two_at w 0 < 2) ⊎ Whole w)
  ready_when true b c d f g h r = absurd r
  ready_when false true c d f g h r = absurd r
  ready_when false false true d f g h r = (ltb-false (length w) 2 f, inl (ltb-true (two_at w 0) 2 g))
  ready_when false false false true f g h r = absurd r
  ready_when false false false false f g h r =
      (ltb-false (length w) 2 f, inr (ltb-false (two_at w 0) 2 g, ltb-false (length w) (two_at w 0 + 2) h))

  ready : Ready (next_in w) → (2 ≤ length w) × ((two_at w 0 < 2) ⊎ Whole w)
  unfolding next_in
  ready r =
      ready_when (eqb (length w) 0) (ltb (length w) 2) (ltb (two_at w 0) 2) (ltb (length w) (two_at w 0 + 2)) refl refl
      refl r

  whole_when : (a b c d : Bool) → ltb (two_at w 0) 2 ≡ c → ltb (length w) (two_at w 0 + 2) ≡ d → Sized (chosen a b c d)
      → (chosen a b c d ≡ whole_of (two_at w 2) (two_at w 0 - 2)) × Whole w
  whole_when true b c d g h r = absurd r
  whole_when false true c d g h r = absurd r
  whole_when false false true d g h r = absurd r
  whole_when false false false true g h r = absurd r
  whole_when false false false false g h r =
      (refl, (ltb-false (two_at w 0) 2 g, ltb-false (length w) (two_at w 0 + 2) h))

  whole : Sized (next_in w) → (next_in w ≡ whole_of (two_at w 2) (two_at w 0 - 2)) × Whole w
  unfolding next_in
  whole r =
      whole_when (eqb (length w) 0) (ltb (length w) 2) (ltb (two_at w 0) 2) (ltb (length w) (two_at w 0 + 2))
      refl refl r

  -- what is left where there is no record: nothing, or something
  left_when : (a b c d : Bool) → eqb (length w) 0 ≡ a → Left (length w) (chosen a b c d)
  left_when true b c d e = eqb-true (length w) 0 e
  left_when false true c d e = let n = eqb-false (length w) 0 e in omega arith
  left_when false false true d e = tt
  left_when false false false true e = let n = eqb-false (length w) 0 e in omega arith
  left_when false false false false e =
      whole_left (length w) (ltb (two_at w 0 - 2) (body_of (two_at w 2)))
      (is_report (two_at w 2) && eqb (two_at w 0 - 2) (body_of (two_at w 2))) (two_at w 0 - 2 + 4)

  left : Left (length w) (next_in w)
  unfolding next_in
  left = left_when (eqb (length w) 0) (ltb (length w) 2) (ltb (two_at w 0) 2) (ltb (length w) (two_at w 0 + 2)) refl

-- a whole record's size, and a report's kind
size_when : (a b : Bool) (m n : ℕ) → Sized (cond a Cut (cond b (Report m) (Other m)))
    → cond a Cut (cond b (Report m) (Other m)) ≡ Other n → m ≡ n
size_when true b m n s e = absurd s
size_when false true m n s e = let z : ◌≡◌ {A = ℕ} 0 1 = cc in absurd (omega arith)
size_when false false m n s e = cc

report_when : (a b : Bool) (m n : ℕ) → cond a Cut (cond b (Report m) (Other m)) ≡ Report n → (b ≡ true) × (m ≡ n)
report_when true b m n e = let z : ◌≡◌ {A = ℕ} 0 1 = cc in absurd (omega arith)
report_when false true m n e = (refl, cc)
report_when false false m n e = let z : ◌≡◌ {A = ℕ} 0 1 = cc in absurd (omega arith)

pub other_size : (w : List ℕ) (n : ℕ) → next_in w ≡ Other n → (4 ≤ n) × (n ≤ length w)
other_size w n e =
    let s : Sized (next_in w) = rw e tt in
    let k = whole w s in
    let m = two_at w 0 - 2 in
    let q : whole_of (two_at w 2) m ≡ Other n = sym k.0 ∙ e in
    let z =
    size_when (ltb m (body_of (two_at w 2))) (is_report (two_at w 2) && eqb m (body_of (two_at w 2))) (m + 4) n
    (rw (sym k.0) s) q in
    (omega arith, omega (arith, k.1.0, k.1.1))

pub record ReportAt (w : List ℕ) (n : ℕ) : Type 0 where
  pub least : 6 ≤ n
  pub there : n ≤ length w
  pub kind : two_at w 2 ≤ 3
  pub lent : brought (two_at w 2) (n - 6) ≡ true

body_least : (kind : ℕ) → 1 ≤ kind → kind ≤ 3 → 2 ≤ body_of kind
body_least kind a b = least_when (eqb kind 0) (eqb kind 1) (eqb kind 2) (eqb kind 3) refl refl refl refl
  where
    least_when : (p q r s : Bool) → eqb kind 0 ≡ p → eqb kind 1 ≡ q → eqb kind 2 ≡ r → eqb kind 3 ≡ s
        → 2 ≤ cond p 12 (cond q 2 (cond r 26 (cond s 36 0)))
    least_when true q r s e f g h = omega arith
    least_when false true r s e f g h = omega arith
    least_when false false true s e f g h = omega arith
    least_when false false false true e f g h = omega arith
    least_when false false false false e f g h =
        let x = eqb-false kind 1 f in
        let y = eqb-false kind 2 g in
        let z = eqb-false kind 3 h in
        absurd (omega arith)

-- the bytes of a report after its frame and slot are those that its kind lends
body_brought : (kind n : ℕ) → 1 ≤ kind → kind ≤ 3 → n ≡ body_of kind + 4 → brought kind (n - 6) ≡ true
body_brought kind n a b e = go (eqb kind 0) (eqb kind 1) (eqb kind 2) (eqb kind 3) refl refl refl refl e
  where
    go : (p q r s : Bool) → eqb kind 0 ≡ p → eqb kind 1 ≡ q → eqb kind 2 ≡ r → eqb kind 3 ≡ s
        → n ≡ cond p 12 (cond q 2 (cond r 26 (cond s 36 0))) + 4
        → cond q (eqb (n - 6) 0) (cond r (eqb (n - 6) 24) (cond s (eqb (n - 6) 34) false)) ≡ true
    go true q r s d f g h e = absurd (omega (arith, eqb-true kind 0 d))
    go false true r s d f g h e = eq-eqb (n - 6) 0 (omega (arith, e))
    go false false true s d f g h e = eq-eqb (n - 6) 24 (omega (arith, e))
    go false false false true d f g h e = eq-eqb (n - 6) 34 (omega (arith, e))
    go false false false false d f g h e =
        let x = eqb-false kind 1 f in
        let y = eqb-false kind 2 g in
        let z = eqb-false kind 3 h in
        absurd (omega arith)

pub report_at : (w : List ℕ) (n : ℕ) → next_in w ≡ Report n → ReportAt w n
report_at w n e =
    let s : Sized (next_in w) = rw e tt in
    let k = whole w s in
    let m = two_at w 0 - 2 in
    let kind = two_at w 2 in
    let q : whole_of kind m ≡ Report n = sym k.0 ∙ e in
    let z = report_when (ltb m (body_of kind)) (is_report kind && eqb m (body_of kind)) (m + 4) n q in
    let r = and_first (is_report kind) (eqb m (body_of kind)) z.0 in
    let b = eqb-true m (body_of kind) (and_second (is_report kind) (eqb m (body_of kind)) z.0) in
    let low = leb-true 1 kind (and_first (leb 1 kind) (leb kind 3) r) in
    let high = leb-true kind 3 (and_second (leb 1 kind) (leb kind 3) r) in
    record {
      least = omega (arith, z.1, body_least kind low high);
      there = omega (arith, z.1, k.1.0, k.1.1);
      kind = high;
      lent = body_brought kind n low high (omega (arith, z.1, b));
    }

pub report_least : (w : List ℕ) (n : ℕ) → next_in w ≡ Report n → 6 ≤ n
report_least w n e = (report_at w n e).least

pub report_there : (w : List ℕ) (n : ℕ) → next_in w ≡ Report n → n ≤ length w
report_there w n e = (report_at w n e).there

pub report_has : (w : List ℕ) (n i : ℕ) → next_in w ≡ Report n → i < 6 → i < length w
report_has w n i e h = let r = report_at w n e in omega (arith, r.least, r.there)

-- a report that was found is there: `search found`
pub ruleset found = (tt, lit<, report_least, report_there, report_has, arith)

-- ---- what follows does not matter

two_same : (at : ℕ) (w z : List ℕ) → at + 2 ≤ length w → two_at (w ++ z) at ≡ two_at w at
two_same at w z h =
    ap₂ (λ (a b : ℕ). a + 256 * b) (get_or-append w z 0 at (omega arith))
    (get_or-append w z 0 (at + 1) (omega arith))

pub next_same : (w z : List ℕ) → Ready (next_in w) → next_in (w ++ z) ≡ next_in w
unfolding next_in
next_same w z r =
    let k = ready w r in
    let l = length-append w z in
    let t = two_same 0 w z k.0 in
    ⊎_elim (λ (h : two_at w 0 < 2).
    rw (
      ne_eqb (length (w ++ z)) 0 (omega (arith, k.0)),
      le-ltb (length (w ++ z)) 2 (omega (arith, k.0)),
      t,
      lt-ltb (two_at w 0) 2 h,
      ne_eqb (length w) 0 (omega (arith, k.0)),
      le-ltb (length w) 2 k.0,
    ) refl)
    (λ (h : Whole w).
    let u = two_same 2 w z (omega (arith, h.0, h.1)) in
    rw (
      ne_eqb (length (w ++ z)) 0 (omega (arith, k.0)),
      le-ltb (length (w ++ z)) 2 (omega (arith, k.0)),
      t,
      u,
      le-ltb (two_at w 0) 2 h.0,
      le-ltb (length (w ++ z)) (two_at w 0 + 2) (omega (arith, h.1)),
      ne_eqb (length w) 0 (omega (arith, k.0)),
      le-ltb (length w) 2 k.0,
      le-ltb (length w) (two_at w 0 + 2) h.1,
    ) refl) k.1

report_same : (w z : List ℕ) (n : ℕ) → ReportAt w n → report_in n (w ++ z) ≡ report_in n w
report_same w z n r =
    let h = r.least in
    let l = r.there in
    rw (
      get_or-append w z 0 4 (omega arith),
      get_or-append w z 0 5 (omega arith),
      get_or-append w z 0 2 (omega arith),
      get_or-append w z 0 3 (omega arith),
      take-append-le n w z l,
    ) refl

-- ---- the records one by one

entry_same : (w : List ℕ) (x : Next) → next_in w ≡ x → (f g : List ℕ → List Entry)
    → ((n : ℕ) → 4 ≤ n → n ≤ length w → f (drop n w) ≡ g (drop n w)) → entry x w f ≡ entry x w g
entry_same w End e f g h = refl
entry_same w Part e f g h = refl
entry_same w Cut e f g h = refl
entry_same w (Other n) e f g h = let s = other_size w n e in ap (λ (es : List Entry). other ∷ es) (h n s.0 s.1)
entry_same w (Report n) e f g h =
    let s = report_at w n e in
    ap (λ (es : List Entry). report (report_in n w) ∷ es) (h n (omega (arith, s.least)) s.there)

none_left : (w : List ℕ) → length w ≡ 0 → next_in w ≡ End
unfolding next_in
none_left w e = rw (eq-eqb (length w) 0 e) refl

fuel_same : (k j : ℕ) (w : List ℕ) → length w ≤ k → length w ≤ j → entries_for k w ≡ entries_for j w
unfolding entries_for
fuel_same zero zero w a b = refl
fuel_same zero (suc j) w a b = rw (none_left w (omega arith)) refl
fuel_same (suc k) zero w a b = rw (none_left w (omega arith)) refl
fuel_same (suc k) (suc j) w a b =
    entry_same w (next_in w) refl (entries_for k) (entries_for j)
    (λ n h l. fuel_same k j (drop n w) (omega (arith, length-drop n w)) (omega (arith, length-drop n w)))

entries_when : (k : ℕ) (w : List ℕ) → length w ≡ k → entries_for k w ≡ entry (next_in w) w entries
unfolding entries_for entries
entries_when zero w e = rw (none_left w e) refl
entries_when (suc k) w e =
    entry_same w (next_in w) refl (entries_for k) entries
    (λ n h l. fuel_same k (length (drop n w)) (drop n w) (omega (arith, length-drop n w)) (omega arith))

-- the first of the records, and then the others
entries_next : (w : List ℕ) → entries w ≡ entry (next_in w) w entries
unfolding entries
entries_next w = entries_when (length w) w refl

module _ (w z : List ℕ) where
  -- the same where more of the log follows
  entries_more : (x : Next) → next_in w ≡ x → Ready x → entries (w ++ z) ≡ entry x (w ++ z) entries
  entries_more x e r = entries_next (w ++ z) ∙ ap (λ (y : Next). entry y (w ++ z) entries) (next_same w z (rw e r) ∙ e)

  pub entries_other : (n : ℕ) → next_in w ≡ Other n → entries (w ++ z) ≡ other ∷ entries (drop n w ++ z)
  entries_other n e =
      entries_more (Other n) e tt ∙ ap (λ (l : List ℕ). other ∷ entries l) (drop-append-le n w z (other_size w n e).1)

  pub entries_report : (n : ℕ) → next_in w ≡ Report n
      → entries (w ++ z) ≡ report (report_in n w) ∷ entries (drop n w ++ z)
  entries_report n e =
      let s = report_at w n e in
      entries_more (Report n) e tt
      ∙ ap₂ (λ (l : Lent) (r : List ℕ). report l ∷ entries r) (report_same w z n s) (drop-append-le n w z s.there)

  pub entries_cut : next_in w ≡ Cut → entries (w ++ z) ≡ cut ∷ []
  entries_cut e = entries_more Cut e tt

-- what is left at the end of a log
pub entries_end : (w : List ℕ) → next_in w ≡ End → (entries w ≡ []) × (length w ≡ 0)
entries_end w e = (entries_next w ∙ rw e refl, rw e at (left w))

pub entries_part : (w : List ℕ) → next_in w ≡ Part → (entries w ≡ cut ∷ []) × (1 ≤ length w)
entries_part w e = (entries_next w ∙ rw e refl, rw e at (left w))

-- ---- each report among the entries lends what its kind lends

abbrev pub Lends : List Entry → Type 0
Lends [] = Unit {0}
Lends (report l ∷ es) = (brought l.kind (length l.blocks) ≡ true) × Lends es
Lends (other ∷ es) = Lends es
Lends (cut ∷ es) = Lends es

report_lends : (w : List ℕ) (n : ℕ) → ReportAt w n → let l = report_in n w in
    brought l.kind (length l.blocks) ≡ true
report_lends w n r =
    let e : length (drop 6 (take n w)) ≡ n - 6 =
    length-drop 6 (take n w) ∙ ap (λ (m : ℕ). m - 6) (length-take-le n w r.there) in
    rw e r.lent

entry_lends : (x : Next) (w : List ℕ) (more : List ℕ → List Entry) → next_in w ≡ x → ((v : List ℕ) → Lends (more v))
    → Lends (entry x w more)
entry_lends End w more e h = tt
entry_lends Part w more e h = tt
entry_lends Cut w more e h = tt
entry_lends (Other n) w more e h = h (drop n w)
entry_lends (Report n) w more e h = (report_lends w n (report_at w n e), h (drop n w))

lends_for : (k : ℕ) (w : List ℕ) → Lends (entries_for k w)
unfolding entries_for
lends_for zero w = tt
lends_for (suc k) w = entry_lends (next_in w) w (entries_for k) refl (lends_for k)

pub all_lend : (w : List ℕ) → Lends (entries w)
unfolding entries
all_lend w = lends_for (length w) w
