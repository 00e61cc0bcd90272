-- Earlier headers in their places, and the turns of the loops over them. Assumes nothing.
use mathlib.Core.Path.{◌≡◌, refl, sym, ◌∙◌, ap, ap₂}
use mathlib.Core.Bool.{Bool, true, false, cond, ◌||◌}
use mathlib.Core.List.{List, [], ◌∷◌, ◌++◌, append_assoc, append-nil}
use Prim.Native.Nat.{ℕ, zero, suc, ◌+◌, ◌-◌, ◌*◌, ◌≤◌, ◌<◌}
use native.Mathlib.Omega.{arith}
use lib.Dec.{eqb}
use lib.ListN.{length, take, drop, set, get_or, replicate, length-append, length-replicate, take-append-drop}
use lib.ListN.{replicate-append-replicate}
use lib.Seq.{sets, sets-eq, take_at, drop-append-add, take-suc, take-add, drop-cons, set_at, get_or_at, length-take-le}
use borrow.Author.Tests.{ne_eqb, eq-eqb}
use Rattle.store.specs.declared.Raw.{Raw}
use Rattle.history.specs.declared.Near.{Near}
use Rattle.history.specs.Step.{no_near, fits, copied, judge, near_of, fallen, near_after}
use Rattle.history.proofs.EarlierHeaders.{or_right, copied_more}
use Rattle.history.proofs.Bounds.{fewer_fallen}
use Rattle.reports.specs.Nears.{flat, places_of, nears_of, Placed, Put, Judged, fallen_when, fallen_in, Fallen}
use Rattle.reports.specs.Nears.{newest, Kept}
use Rattle.history.specs.declared.Nears.{Nears}
use Rattle.history.specs.declared.Open.{Open}
use Rattle.history.specs.declared.Place.{Place}
use Rattle.history.specs.declared.Verdict.{Verdict}
use Rattle.reports.specs.declared.read.Brought.{Brought}

-- ---- Three numbers for each.

pub flat_length : (ps : List Near) → length (flat ps) ≡ 3 * length ps
flat_length [] = refl
flat_length (p ∷ ps) = omega (arith, flat_length ps)

pub seven : (ps : List Near) {places : List ℕ} → places ≡ flat ps → length places ≡ 21 → length ps ≡ 7
seven ps e l = omega (arith, flat_length ps, ap length e)

-- One further on.
on_0 : (i : ℕ) → 3 * suc i ≡ suc (suc (suc (3 * i)))
on_0 i = omega arith

on_1 : (i : ℕ) → 3 * suc i + 1 ≡ suc (suc (suc (3 * i + 1)))
on_1 i = omega arith

on_2 : (i : ℕ) → 3 * suc i + 2 ≡ suc (suc (suc (3 * i + 2)))
on_2 i = omega arith

-- A place, read and written.
abbrev read_at : List ℕ → ℕ → Near
read_at l i = near_of (record { high = get_or l (3 * i) 0; low = get_or l (3 * i + 1) 0 }) (get_or l (3 * i + 2) 0)

pub flat_read : (ps : List Near) (i : ℕ) → read_at (flat ps) i ≡ get_or ps i no_near
flat_read [] i = refl
flat_read (p ∷ ps) zero = refl
flat_read (p ∷ ps) (suc i) = rw (on_2 i, on_1 i, on_0 i) (flat_read ps i)

abbrev written : List ℕ → ℕ → Near → List ℕ
written l i n = set (set (set l (3 * i) n.raw.high) (3 * i + 1) n.raw.low) (3 * i + 2) n.countdown

pub flat_write : (ps : List Near) (i : ℕ) (n : Near) → written (flat ps) i n ≡ flat (set ps i n)
flat_write [] i n = refl
flat_write (p ∷ ps) zero n = refl
flat_write (p ∷ ps) (suc i) n =
    rw (on_2 i, on_1 i, on_0 i)
    (ap (λ (l : List ℕ). p.raw.high ∷ p.raw.low ∷ p.countdown ∷ l) (flat_write ps i n))

-- ---- One turn of the fall.

fallen_append : (ns ms : List Near) → fallen (ns ++ ms) ≡ fallen ns ++ fallen ms
fallen_append [] ms = refl
fallen_append (n ∷ ns) ms = go (eqb n.countdown 0) (fallen_append ns ms)
  where
    go : (z : Bool) → fallen (ns ++ ms) ≡ fallen ns ++ fallen ms → let m = near_of n.raw (n.countdown - 1) in
        cond z (fallen (ns ++ ms)) (m ∷ fallen (ns ++ ms)) ≡ cond z (fallen ns) (m ∷ fallen ns) ++ fallen ms
    go true e = e
    go false e = ap (λ (l : List Near). near_of n.raw (n.countdown - 1) ∷ l) e

zeros_on : (z : ℕ) (ps : List Near) → replicate z no_near ++ (no_near ∷ ps) ≡ no_near ∷ (replicate z no_near ++ ps)
zeros_on zero ps = refl
zeros_on (suc z) ps = ap (λ (l : List Near). no_near ∷ l) (zeros_on z ps)

module _ (ps : List Near) (i : ℕ) (l : i < length ps) where
  abbrev front : List Near
  front = fallen (take i ps)

  abbrev out : ℕ
  out = i - length front

  abbrev here : Near
  here = get_or ps i no_near

  pub fallen_fits : length front ≤ i
  fallen_fits = omega (arith, fewer_fallen (take i ps), length-take-le i ps (omega arith))

  split : fallen_in true i ps ≡ (front ++ replicate out no_near) ++ (here ∷ drop (suc i) ps)
  split =
      ap (λ (d : List Near). front ++ (replicate out no_near ++ d)) (drop-cons ps i no_near l)
      ∙ sym (append_assoc front (replicate out no_near) (here ∷ drop (suc i) ps))

  split_length : length (front ++ replicate out no_near) ≡ i
  split_length = omega (arith, length-append front (replicate out no_near), length-replicate out no_near, fallen_fits)

  -- The row that has its turn is still as it was.
  pub fallen_here : get_or (fallen_in true i ps) i no_near ≡ here
  fallen_here =
      ap (λ (d : List Near). get_or d i no_near) split
      ∙ get_or_at (front ++ replicate out no_near) here (drop (suc i) ps) no_near i split_length

  -- It is taken out.
  taken : set (fallen_in true i ps) i no_near ≡ front ++ (no_near ∷ (replicate out no_near ++ drop (suc i) ps))
  taken =
      ap (λ (d : List Near). set d i no_near) split
      ∙ set_at (front ++ replicate out no_near) here (drop (suc i) ps) no_near i split_length
      ∙ append_assoc front (replicate out no_near) (no_near ∷ drop (suc i) ps)
      ∙ ap (λ (d : List Near). front ++ d) (zeros_on out (drop (suc i) ps))

  one_more : fallen (take (suc i) ps) ≡ front ++ fallen (here ∷ [])
  one_more = ap fallen (take-suc ps i no_near l) ∙ fallen_append (take i ps) (here ∷ [])

  -- Where its countdown was 0 that is all, and where not it comes back, fallen.
  module _ (z : here.countdown ≡ 0) where
    none_more : fallen (take (suc i) ps) ≡ front
    none_more = one_more ∙ rw (eq-eqb here.countdown 0 z) (append-nil front)

    pub out_count : length (fallen (take (suc i) ps)) ≡ length front
    out_count = ap length none_more

    pub out_rows : set (fallen_in true i ps) i no_near ≡ fallen_in true (suc i) ps
    out_rows =
        let e : suc out ≡ suc i - length front = omega (arith, fallen_fits) in
        taken
        ∙ ap (λ (n : ℕ). front ++ (replicate n no_near ++ drop (suc i) ps)) e
        ∙ ap (λ (f : List Near). f ++ (replicate (suc i - length f) no_near ++ drop (suc i) ps)) (sym none_more)

  module _ (z : here.countdown ≡ 0 → ⊥) where
    abbrev there : Near
    there = near_of here.raw (here.countdown - 1)

    some_more : fallen (take (suc i) ps) ≡ front ++ (there ∷ [])
    some_more = one_more ∙ rw (ne_eqb here.countdown 0 z) refl

    pub on_count : length (fallen (take (suc i) ps)) ≡ suc (length front)
    on_count = ap length some_more ∙ length-append front (there ∷ []) ∙ omega arith

    pub on_rows : set (set (fallen_in true i ps) i no_near) (length front) there ≡ fallen_in true (suc i) ps
    on_rows =
        let rest = replicate out no_near ++ drop (suc i) ps in
        let e : out ≡ suc i - length (front ++ (there ∷ [])) = omega (arith, length-append front (there ∷ [])) in
        ap (λ (d : List Near). set d (length front) there) taken
        ∙ set_at front no_near rest there (length front) refl
        ∙ sym (append_assoc front (there ∷ []) rest)
        ∙ ap (λ (n : ℕ). (front ++ (there ∷ [])) ++ (replicate n no_near ++ drop (suc i) ps)) e
        ∙ ap (λ (f : List Near). f ++ (replicate (suc i - length f) no_near ++ drop (suc i) ps)) (sym some_more)

-- Before place i has its turn, k are left.
pub record Turn (ps : List Near) (i k : ℕ) (places : List ℕ) : Type 0 where
  pub count : k ≡ length (fallen (take i ps))
  pub rows : places ≡ flat (fallen_in true i ps)

module _ (ps : List Near) (i k : ℕ) (l : i < length ps) {places : List ℕ} (t : Turn ps i k places) where
  -- it is read, and taken out
  module _ {n : Near} (r : Placed places i n) {cleared : List ℕ} (c : Put places i no_near cleared) where
    read_here : n ≡ get_or ps i no_near
    read_here = r (fallen_in true i ps) t.rows ∙ fallen_here ps i l

    clear_here : cleared ≡ flat (set (fallen_in true i ps) i no_near)
    clear_here = c (fallen_in true i ps) t.rows

    pub turn_out : n.countdown ≡ 0 → Turn ps (suc i) k cleared
    turn_out e =
        let z : (get_or ps i no_near).countdown ≡ 0 = ap (λ (n : Near). n.countdown) (sym read_here) ∙ e in
        record { count = t.count ∙ sym (out_count ps i l z); rows = clear_here ∙ ap flat (out_rows ps i l z) }

    pub turn_on : (n.countdown ≡ 0 → ⊥) → {new : List ℕ} → Put cleared k (near_of n.raw (n.countdown - 1)) new
        → Turn ps (suc i) (suc k) new
    turn_on e p =
        let z : (get_or ps i no_near).countdown ≡ 0 → ⊥ = λ y. e (ap (λ (n : Near). n.countdown) read_here ∙ y) in
        record {
          count = ap suc t.count ∙ sym (on_count ps i l z);
          rows =
              p (set (fallen_in true i ps) i no_near) clear_here
              ∙ ap flat
              (ap₂ (λ (j : ℕ) (m : Near).
              set (set (fallen_in true i ps) i no_near) j (near_of m.raw (m.countdown - 1)))
              t.count read_here ∙ on_rows ps i l z);
        }

-- Where no frame is over nothing moves.
module _ (ps : List Near) (n : ℕ) (l : n ≤ length ps) where
  pub still_count : n ≡ length (take n ps)
  still_count = sym (length-take-le n ps l)

  pub still_rows : fallen_in false n ps ≡ ps
  still_rows =
      let e : n - length (take n ps) ≡ 0 = omega (arith, still_count) in
      ap (λ (k : ℕ). take n ps ++ (replicate k no_near ++ drop n ps)) e ∙ take-append-drop n ps

-- ---- A list in its places.

places_length : (ns : List Near) → length ns ≤ 7 → length (places_of ns) ≡ 7
places_length ns l =
    let k = 7 - length ns in omega (arith, length-append ns (replicate k no_near), length-replicate k no_near)

pub places_take : (ns : List Near) → take (length ns) (places_of ns) ≡ ns
places_take ns = take_at ns (replicate (7 - length ns) no_near) (length ns) refl

zeros : {j k : ℕ} → j ≡ k → replicate j no_near ≡ replicate k no_near
zeros e = ap (λ (n : ℕ). replicate n no_near) e

zeros_drop : (n k : ℕ) → drop n (replicate k no_near) ≡ replicate (k - n) no_near
zeros_drop zero k = let e : k ≡ k - 0 = omega arith in zeros e
zeros_drop (suc n) zero = let e : 0 ≡ 0 - suc n = omega arith in zeros e
zeros_drop (suc n) (suc k) = let e : k - n ≡ suc k - suc n = omega arith in zeros_drop n k ∙ zeros e

places_drop : (ns : List Near) (n : ℕ) → drop (length ns + n) (places_of ns) ≡ replicate (7 - length ns - n) no_near
places_drop ns n = drop-append-add ns (replicate (7 - length ns) no_near) n ∙ zeros_drop n (7 - length ns)

pub fewer_left : (over : Bool) (ns : List Near) → length (fallen_when over ns) ≤ length ns
fewer_left true ns = fewer_fallen ns
fewer_left false ns = omega arith

places_fallen : (over : Bool) (ns : List Near) → length ns ≤ 7
    → fallen_in over (length ns) (places_of ns) ≡ places_of (fallen_when over ns)
places_fallen over ns l =
    let f = fallen_when over ns in
    let k = length ns - length f in
    let e : length ns ≡ length ns + 0 = omega arith in
    let d = ap (λ (n : ℕ). drop n (places_of ns)) e ∙ places_drop ns 0 in
    let z : k + (7 - length ns - 0) ≡ 7 - length f = omega (arith, fewer_left over ns) in
    ap₂ (λ (m d : List Near). fallen_when over m ++ (replicate (length ns - length (fallen_when over m)) no_near ++ d))
    (places_take ns) d
    ∙ ap (λ (z : List Near). f ++ z)
    (replicate-append-replicate k (7 - length ns - 0) no_near ∙ zeros z)

places_kept : (ns ms : List Near) → length ns + length ms ≤ 7
    → sets (places_of ns) (length ns) ms ≡ places_of (ns ++ ms)
places_kept ns ms l =
    let n = places_length ns (omega arith) in
    let z : 7 - length ns - length ms ≡ 7 - length (ns ++ ms) = omega (arith, length-append ns ms) in
    sets-eq ms (places_of ns) (length ns) (omega arith)
    ∙ ap₂ (λ (a d : List Near). (a ++ ms) ++ d) (places_take ns) (places_drop ns (length ms))
    ∙ ap (λ (d : List Near). (ns ++ ms) ++ d) (zeros z)

-- The earlier headers after a report: those before it, fallen, and its own.
after_is : (over near : Bool) (x : Brought) (ns : List Near)
    → near_after over near (near_of x.raw x.countdown) ns ≡ fallen_when over ns ++ newest near over x
after_is true true x ns = fallen_append ns (near_of x.raw x.countdown ∷ [])
after_is true false x ns = sym (append-nil (fallen ns))
after_is false true x ns = refl
after_is false false x ns = sym (append-nil ns)

newest_few : (near over : Bool) (x : Brought) (n : ℕ) → n ≤ 7 → (near ≡ true → n ≤ 6)
    → n + length (newest near over x) ≤ 7
newest_few false over x n l h = omega arith
newest_few true false x n l h = omega (arith, h refl)
newest_few true true x n l h = go (eqb x.countdown 0)
  where
    go : (z : Bool) → n + length (cond z [] (near_of x.raw (x.countdown - 1) ∷ [])) ≤ 7
    go true = omega arith
    go false = omega (arith, h refl)

-- What the code makes of the places is what the step makes of the list.
pub nears_after : (over near : Bool) (x : Brought) (ns : List Near) {n : ℕ} {places : List ℕ} → n ≡ length ns
    → places ≡ flat (places_of ns) → length ns ≤ 7 → (near ≡ true → length (fallen_when over ns) ≤ 6)
    → {k : ℕ} {left : List ℕ} → Fallen over places n k left → {r : Nears}
    → Kept near over x left k r.count r.places
    → r ≡ nears_of (near_after over near (near_of x.raw x.countdown) ns)
nears_after over near x ns {n} c e l m {k} {left} f {r} g =
    let p = fallen_when over ns in
    let y = newest near over x in
    let t = f (places_of ns) e in
    let d : k ≡ length p = t.0 ∙ rw c (ap (λ (a : List Near). length (fallen_when over a)) (places_take ns)) in
    let w : fallen_in over n (places_of ns) ≡ places_of p =
    ap (λ (a : ℕ). fallen_in over a (places_of ns)) c ∙ places_fallen over ns l in
    let (q, a) = g (places_of p) (t.1 ∙ ap flat w) in
    let few = newest_few near over x (length p) (omega (arith, fewer_left over ns)) m in
    let s = a ∙ ap (λ (z : ℕ). flat (sets (places_of p) z y)) d ∙ ap flat (places_kept p y few) in
    let q' = q ∙ ap (λ (a : ℕ). a + length y) d ∙ sym (length-append p y) in
    let i : r ≡ nears_of (p ++ y) = λ i. record { count = q' i; places = s i } in
    i ∙ ap nears_of (sym (after_is over near x ns))

-- A list that stands in these places is the only one that does.
cons_same : {x y : ℕ} {xs ys : List ℕ} → x ∷ xs ≡ y ∷ ys → (x ≡ y) × (xs ≡ ys)
cons_same e = (cc, cc)

flat_once : (ps qs : List Near) → flat ps ≡ flat qs → ps ≡ qs
flat_once [] [] e = refl
flat_once [] (q ∷ qs) e = let z = ap length e in absurd (omega arith)
flat_once (p ∷ ps) [] e = let z = ap length e in absurd (omega arith)
flat_once (p ∷ ps) (q ∷ qs) e =
    let (h, e₁) = cons_same e in
    let (l, e₂) = cons_same e₁ in
    let (c, e₃) = cons_same e₂ in
    let t = flat_once ps qs e₃ in
    λ i. near_of (record { high = h i; low = l i }) (c i) ∷ t i

pub nears_once : (ns ms : List Near) → nears_of ns ≡ nears_of ms → ns ≡ ms
nears_once ns ms e =
    let p = flat_once (places_of ns) (places_of ms) (ap (λ (n : Nears). n.places) e) in
    sym (places_take ns) ∙ ap₂ (λ (k : ℕ) (d : List Near). take k d) (ap (λ (n : Nears). n.count) e) p ∙ places_take ms

-- The verdict over the places is the one over the list.
pub judged_list : (ns : List Near) {n : ℕ} {places : List ℕ} → n ≡ length ns → places ≡ flat (places_of ns)
    → (x : Brought) (a : Open) (q : Place) (lost : Bool) {v : Verdict} → Judged x a places n q lost v
    → v ≡ judge x.what a ns q x.meant x.raw x.countdown lost
judged_list ns c e x a q lost j =
    j (places_of ns) e
    ∙ rw c (ap (λ (m : List Near). judge x.what a m q x.meant x.raw x.countdown lost) (places_take ns))

-- ---- One turn of the search for a copy.

or_first : (a b c : Bool) → (a || (b || c)) ≡ ((a || b) || c)
or_first true b c = refl
or_first false b c = refl

or_none : (a : Bool) → (a || false) ≡ a
or_none true = refl
or_none false = refl

copied_with : (ns : List Near) (n : Near) (raw : Raw) (f : ℕ)
    → copied (ns ++ (n ∷ [])) raw f ≡ (copied ns raw f || fits n raw f)
copied_with [] n raw f = or_none (fits n raw f)
copied_with (m ∷ ns) n raw f =
    ap (λ (b : Bool). fits m raw f || b) (copied_with ns n raw f)
    ∙ or_first (fits m raw f) (copied ns raw f) (fits n raw f)

module _ (ps : List Near) (i : ℕ) (l : i < length ps) (raw : Raw) (f : ℕ) where
  copied_next : copied (take (suc i) ps) raw f ≡ (copied (take i ps) raw f || fits (get_or ps i no_near) raw f)
  copied_next =
      ap (λ (ns : List Near). copied ns raw f) (take-suc ps i no_near l)
      ∙ copied_with (take i ps) (get_or ps i no_near) raw f

  -- The row is no copy's, or it is.
  pub not_here : copied (take i ps) raw f ≡ false → fits (get_or ps i no_near) raw f ≡ false
      → copied (take (suc i) ps) raw f ≡ false
  not_here e g = copied_next ∙ rw (e, g) refl

  pub found_here : fits (get_or ps i no_near) raw f ≡ true → (n : ℕ) → i < n → copied (take n ps) raw f ≡ true
  found_here g n h =
      let e : suc i + (n - suc i) ≡ n = omega arith in
      ap (λ (k : ℕ). copied (take k ps) raw f) (sym e)
      ∙ ap (λ (ns : List Near). copied ns raw f) (take-add (suc i) (n - suc i) ps)
      ∙ copied_more (take (suc i) ps) (take (n - suc i) (drop (suc i) ps)) raw f
      (copied_next ∙ rw g (or_right (copied (take i ps) raw f)))
