-- The laws of the record: it is the one of the list of transfers, whatever is entered. Assumes nothing.
use mathlib.Core.Path.{◌≡◌, refl, sym, ap, ◌∙◌}
use mathlib.Core.Logic.{◌↔◌}
use mathlib.Core.Bool.{Bool, true, false, cond}
use mathlib.Core.List.{List, [], ◌∷◌, ◌++◌, map}
use Prim.Native.Nat.{ℕ, zero, suc, ◌+◌, ◌≤◌, min}
use native.Mathlib.Omega.{arith}
use lib.Dec.{eqb}
use lib.ListN.{length, take, replicate}
use lib.Seq.{take-take}
use borrow.Author.Tests.{eqb-true, eqb-false}
use Rattle.history.specs.Line.{Line, start, ◌▸◌, Every}
use Rattle.bookings.specs.Pairs.{Pair, same, among, last32, entering, booked, IsAgain, IsBooked}
use Rattle.bookings.specs.Kept.{number, record_of, bookings_at, InRange, Leads, is_in, pushed, entered_as}
use Rattle.bookings.specs.Kept.{Entered, entered, entered_in}
use Rattle.bookings.specs.declared.Bookings.{Bookings}
use Rattle.bookings.proofs.PairLaws.{same_true, same_is, not_both, among_true, among_false}

-- ---- a pair's number says which it is

same_split : (p q : Pair) (t d : Bool) → InRange p → InRange q → same p q ≡ t → eqb (number q) (number p) ≡ d → t ≡ d
same_split p q true true hp hq e f = refl
same_split p q false false hp hq e f = refl
same_split p q true false hp hq e f =
    let g = same_true p q e in
    absurd (eqb-false (number q) (number p) f (sym (ap number g)))
same_split p q false true hp hq e f =
    let g = eqb-true (number q) (number p) f in
    let s : p.source ≡ q.source = omega (arith, hp.reference, hq.reference) in
    let r : p.reference ≡ q.reference = omega (arith, hp.reference, hq.reference) in
    absurd (not_both false (sym e ∙ same_is p q (λ i. record { source = s i; reference = r i })) refl)

pub same_number : (p q : Pair) → InRange p → InRange q → same p q ≡ eqb (number q) (number p)
same_number p q hp hq = same_split p q (same p q) (eqb (number q) (number p)) hp hq refl refl

-- ---- what is held

-- each of these is in range
abbrev AllInRange : List Pair → Type 0
AllInRange [] = Unit {0}
AllInRange (p ∷ ps) = InRange p × AllInRange ps

range_entering : (t : Bool) (p : Pair) (bs : List Pair) → InRange p → AllInRange bs → AllInRange (entering t p bs)
range_entering true p bs hp h = h
range_entering false p bs hp h = (hp, h)

range_booked : (ts : Line Pair) → Every InRange ts → AllInRange (booked ts)
range_booked start h = tt
range_booked (ts ▸ p) h = range_entering (among p (last32 (booked ts))) p (booked ts) h.1 (range_booked ts h.0)

range_take : (k : ℕ) (bs : List Pair) → AllInRange bs → AllInRange (take k bs)
range_take zero bs h = tt
range_take (suc k) [] h = tt
range_take (suc k) (b ∷ bs) h = (h.0, range_take k bs h.1)

among_number : (p : Pair) (bs : List Pair) → InRange p → AllInRange bs → among p bs ≡ is_in (number p) (map number bs)
among_number p [] hp h = refl
among_number p (b ∷ bs) hp h = rw (same_number p b hp h.0, among_number p bs hp h.1) refl

-- the numbers kept are those of the last 32
first_kept : (k : ℕ) (bs : List Pair) (z : List ℕ)
    → take (min k (length bs)) (take k (map number bs ++ z)) ≡ map number (take k bs)
first_kept zero bs z = let e : min 0 (length bs) ≡ 0 = omega arith in rw e refl
first_kept (suc k) [] z = let e : min (suc k) 0 ≡ 0 = omega arith in rw e refl
first_kept (suc k) (b ∷ bs) z =
    let e : min (suc k) (suc (length bs)) ≡ suc (min k (length bs)) = omega arith in
    rw e (ap (◌∷◌ (number b)) (first_kept k bs z))

held_is : (ts : Line Pair) (p : Pair) → Every InRange ts → InRange p
    → is_in (number p) (take (bookings_at ts).count (bookings_at ts).pairs) ≡ among p (last32 (booked ts))
unfolding record_of
held_is ts p h hp =
    ap (is_in (number p)) (first_kept 32 (booked ts) (replicate 32 0))
    ∙ sym (among_number p (last32 (booked ts)) hp (range_take 32 (booked ts) (range_booked ts h)))

-- ---- what is entered

pushed_is : (p : Pair) (bs : List Pair) → pushed (number p) (record_of bs) ≡ record_of (p ∷ bs)
unfolding record_of
pushed_is p bs =
    let n : min 32 (min 32 (length bs) + 1) ≡ min 32 (suc (length bs)) = omega arith in
    let s = ap (◌∷◌ (number p)) (take-take 31 32 (map number bs ++ replicate 32 0) (omega arith)) in
    λ i. record { count = n i; pairs = s i }

-- one that is there
pub entered_again : (b : Bookings) (x : ℕ) (t : Bool) → t ≡ is_in x (take b.count b.pairs) → t ≡ true
    → entered b 2 ≡ entered_in b x
unfolding entered_in
entered_again b x t e h = rw (sym e, h) refl

-- one that is not
pub entered_new : (b : Bookings) (x : ℕ) (t : Bool) {n : ℕ} {ps : List ℕ} → t ≡ is_in x (take b.count b.pairs)
    → t ≡ false → n ≡ min 32 (b.count + 1) → ps ≡ x ∷ take 31 b.pairs
    → entered (record { count = n; pairs = ps }) 1 ≡ entered_in b x
unfolding entered_in
entered_new b x t e h en ep = rw (sym e, h) (λ i. entered (record { count = en i; pairs = ep i }) 1)

entered_split : (t : Bool) (p : Pair) (bs : List Pair)
    → entered_as t (record_of bs) (number p) ≡ entered (record_of (entering t p bs)) (cond t 2 1)
entered_split true p bs = refl
entered_split false p bs = ap (λ (b : Bookings). entered b 1) (pushed_is p bs)

entered_at : (ts : Line Pair) (p : Pair) → Every InRange ts → InRange p
    → entered_in (bookings_at ts) (number p) ≡ entered (bookings_at (ts ▸ p)) (cond (among p (last32 (booked ts))) 2 1)
unfolding entered_in
entered_at ts p h hp = rw (held_is ts p h hp) (entered_split (among p (last32 (booked ts))) p (booked ts))

pub entered_is : (ts : Line Pair) (b : Bookings) (p : Pair) → Leads ts b → InRange p
    → entered_in b (number p) ≡ entered (bookings_at (ts ▸ p)) (cond (among p (last32 (booked ts))) 2 1)
entered_is ts b p l hp = ap (λ (x : Bookings). entered_in x (number p)) l.there ∙ entered_at ts p l.fit hp

-- a transfer more leads to what is entered
pub entered_leads : (ts : Line Pair) (b : Bookings) (p : Pair) → Leads ts b → InRange p
    → Leads (ts ▸ p) (entered_in b (number p)).bookings
entered_leads ts b p l hp =
    let e = entered_is ts b p l hp in
    record { fit = (l.fit, hp); there = ap (λ (x : Entered). x.bookings) e }

-- the mark
marks_split : (ts : Line Pair) (p : Pair) (t : Bool) → among p (last32 (booked ts)) ≡ t
    → ((cond {A = ℕ} t 2 1 ≡ 1) ↔ IsBooked ts p) × ((cond {A = ℕ} t 2 1 ≡ 2) ↔ IsAgain ts p)
marks_split ts p true e =
    let a = among_true p (last32 (booked ts)) e in
    ((λ z. absurd (omega arith), λ n. absurd (n a)), (λ z. a, λ h. refl))
marks_split ts p false e =
    let n = among_false p (last32 (booked ts)) e in
    ((λ z. n, λ h. refl), (λ z. absurd (omega arith), λ h. absurd (n h)))

pub entered_marks : (ts : Line Pair) (b : Bookings) (p : Pair) → Leads ts b → InRange p
    → (((entered_in b (number p)).mark ≡ 1) ↔ IsBooked ts p) × (((entered_in b (number p)).mark ≡ 2) ↔ IsAgain ts p)
entered_marks ts b p l hp = rw (entered_is ts b p l hp) (marks_split ts p (among p (last32 (booked ts))) refl)

-- ---- a record that was reached

pub fresh_leads : Leads start (bookings_at start)
fresh_leads = record { fit = tt; there = refl }

pub leads_count : (ts : Line Pair) (b : Bookings) → Leads ts b → b.count ≤ 32
unfolding record_of
leads_count ts b l = rw l.there (omega arith)
