-- Which of a list of transfers are booked. Assumes nothing.
use mathlib.Core.Path.{◌≡◌, refl, ap, subst}
use mathlib.Core.Logic.{◌↔◌, inl, inr}
use mathlib.Core.Bool.{Bool, true, false}
use mathlib.Core.List.{List, [], ◌∷◌, ◌++◌}
use Prim.Native.Nat.{ℕ, ◌+◌, ◌≤◌, ◌<◌}
use native.Mathlib.Nat.{le_trans}
use native.Mathlib.Decide.{dec_le}
use native.Mathlib.Omega.{arith}
use lib.ListN.{length, take}
use lib.Seq.{take_all, take-append-le, take-append-add}
use Rattle.history.specs.Line.{Line, start, ◌▸◌, ◌⧺◌, Every}
use Rattle.history.proofs.Lines.{⧺-assoc}
use Rattle.bookings.specs.Pairs.{Pair, In, among, last32, entering, booked, since, IsAgain, IsBooked, On}
use Rattle.bookings.specs.Pairs.{Different, times}
use Rattle.bookings.proofs.PairLaws.{among_true, among_is, among_false, among_not, in_take, in_longer, in_right}
use Rattle.bookings.proofs.PairLaws.{fewer_different, AllIn, at_most, times_none, times_one, times_append}

-- ---- one transfer more

pub booked_new : (ts : Line Pair) (p : Pair) → IsBooked ts p → booked (ts ▸ p) ≡ p ∷ booked ts
booked_new ts p n = rw (among_not p (last32 (booked ts)) n) refl

pub booked_again : (ts : Line Pair) (p : Pair) → IsAgain ts p → booked (ts ▸ p) ≡ booked ts
booked_again ts p h = rw (among_is p (last32 (booked ts)) h) refl

in_entering : (t : Bool) (q p : Pair) (bs : List Pair) → In p bs → In p (entering t q bs)
in_entering true q p bs h = h
in_entering false q p bs h = inr h

-- ---- the bookings are transfers' pairs, and each transfer's pair is among them

on_entering : (t : Bool) (ts : Line Pair) (q p : Pair) → (In p (booked ts) → On p ts) → In p (entering t q (booked ts))
    → On p (ts ▸ q)
on_entering true ts q p ih h = inr (ih h)
on_entering false ts q p ih (inl e) = inl e
on_entering false ts q p ih (inr h) = inr (ih h)

pub booked_on : (ts : Line Pair) (p : Pair) → In p (booked ts) → On p ts
booked_on start p h = h
booked_on (ts ▸ q) p h = on_entering (among q (last32 (booked ts))) ts q p (booked_on ts p) h

in_own : (q : Pair) (bs : List Pair) (t : Bool) → among q (last32 bs) ≡ t → In q (entering t q bs)
in_own q bs true e = in_take q 32 bs (among_true q (last32 bs) e)
in_own q bs false e = inl refl

pub on_booked : (ts : Line Pair) (p : Pair) → On p ts → In p (booked ts)
on_booked start p h = h
on_booked (ts ▸ q) p (inl e) = rw e (in_own q (booked ts) (among q (last32 (booked ts))) refl)
on_booked (ts ▸ q) p (inr h) = in_entering (among q (last32 (booked ts))) q p (booked ts) (on_booked ts p h)

-- a pair is booked at its first transfer
pub first_books : (ts : Line Pair) (p : Pair) → (On p ts → ⊥) → IsBooked ts p
first_books ts p n h = n (booked_on ts p (in_take p 32 (booked ts) h))

-- ---- further transfers

since_entering : (t : Bool) (q : Pair) (xs ys : List Pair) (bs : List Pair) → bs ≡ xs ++ ys
    → entering t q bs ≡ entering t q xs ++ ys
since_entering true q xs ys bs e = e
since_entering false q xs ys bs e = ap (◌∷◌ q) e

pub since_is : (ts us : Line Pair) → booked (ts ⧺ us) ≡ since ts us ++ booked ts
since_is ts start = refl
since_is ts (us ▸ q) =
    since_entering (among q (last32 (booked (ts ⧺ us)))) q (since ts us) (booked ts) (booked (ts ⧺ us)) (since_is ts us)

pub since_again : (ts us : Line Pair) (p : Pair) → IsAgain (ts ⧺ us) p → since ts (us ▸ p) ≡ since ts us
since_again ts us p h = rw (among_is p (last32 (booked (ts ⧺ us))) h) refl

-- one of the last k booked is among the last 32 as long as no more than 32 less k are booked
pub stays : (k : ℕ) (ts us : Line Pair) (p : Pair) → In p (take k (booked ts)) → k + length (since ts us) ≤ 32
    → IsAgain (ts ⧺ us) p
stays k ts us p h l =
    let s = since ts us in
    let h' = in_right p s (take k (booked ts)) h in
    let there : In p (take (length s + k) (s ++ booked ts)) = rw (take-append-add s (booked ts) k) h' in
    rw (since_is ts us) (in_longer p (length s + k) 32 (s ++ booked ts) (omega arith) there)

-- one that was just booked
pub just_booked : (ts : Line Pair) (p : Pair) → IsBooked ts p → In p (take 1 (booked (ts ▸ p)))
just_booked ts p n = rw (booked_new ts p n) (inl refl)

pub stays_booked : (ts us : Line Pair) (p : Pair) → IsBooked ts p → length (since (ts ▸ p) us) < 32
    → IsAgain (ts ▸ p ⧺ us) p
stays_booked ts us p n l = stays 1 (ts ▸ p) us p (just_booked ts p n) (omega arith)

-- ---- booked again

out : (ts us : Line Pair) (p : Pair) → (In p (since ts us) → ⊥) → 32 ≤ length (since ts us) → IsBooked (ts ⧺ us) p
out ts us p n l h =
    let g : In p (take 32 (since ts us ++ booked ts)) = rw (since_is ts us) at h in
    let f : In p (take 32 (since ts us)) = rw (take-append-le 32 (since ts us) (booked ts) l) at g in
    n (in_take p 32 (since ts us) f)

enough : (ts us : Line Pair) (p : Pair) → IsBooked ts p → IsBooked (ts ▸ p ⧺ us) p
    → Dec (32 ≤ length (since (ts ▸ p) us)) → 32 ≤ length (since (ts ▸ p) us)
enough ts us p n m (yes l) = l
enough ts us p n m (no l) = absurd (m (stays_booked ts us p n (not_le l)))
  where
    not_le : {a : ℕ} → (32 ≤ a → ⊥) → a < 32
    not_le f = omega arith

pub books_again : (ts us : Line Pair) (p : Pair) → IsBooked ts p → (In p (since (ts ▸ p) us) → ⊥)
    → IsBooked (ts ▸ p ⧺ us) p ↔ (32 ≤ length (since (ts ▸ p) us))
books_again ts us p n s =
    (λ m. enough ts us p n m (dec_le 32 (length (since (ts ▸ p) us))), λ l. out (ts ▸ p) us p s l)

-- ---- the last 32 are all different

different_entering : (q : Pair) (bs : List Pair) (t : Bool) → among q (last32 bs) ≡ t → Different (last32 bs)
    → Different (last32 (entering t q bs))
different_entering q bs true e d = d
different_entering q bs false e d =
    (λ h. among_false q (last32 bs) e (in_longer q 31 32 bs (omega arith) h), fewer_different 31 32 bs (omega arith) d)

pub all_different : (ts : Line Pair) → Different (last32 (booked ts))
all_different start = tt
all_different (ts ▸ q) = different_entering q (booked ts) (among q (last32 (booked ts))) refl (all_different ts)

-- ---- at most 32 different pairs

all_entering : (t : Bool) (q : Pair) (bs ps : List Pair) → In q ps → AllIn bs ps → AllIn (entering t q bs) ps
all_entering true q bs ps h a = a
all_entering false q bs ps h a = (h, a)

pub all_in : (ts : Line Pair) (ps : List Pair) → Every (λ (t : Pair). In t ps) ts → AllIn (booked ts) ps
all_in start ps h = tt
all_in (ts ▸ q) ps h = all_entering (among q (last32 (booked ts))) q (booked ts) ps h.1 (all_in ts ps h.0)

one_more : (q : Pair) (bs : List Pair) (t : Bool) → among q (last32 bs) ≡ t → length bs ≤ 32 → Different bs
    → Different (entering t q bs)
one_more q bs true e l d = d
one_more q bs false e l d = (λ h. among_false q (last32 bs) e (rw (take_all 32 bs l) h), d)

pub few_different : (ts : Line Pair) (ps : List Pair) → length ps ≤ 32 → Every (λ (t : Pair). In t ps) ts
    → Different (booked ts)
few_different start ps l h = tt
few_different (ts ▸ q) ps l h =
    let d = few_different ts ps l h.0 in
    let few = le_trans (at_most (booked ts) ps d (all_in ts ps h.0)) l in
    one_more q (booked ts) (among q (last32 (booked ts))) refl few d

pub once_each : (ts : Line Pair) (ps : List Pair) → length ps ≤ 32 → Every (λ (t : Pair). In t ps) ts → (p : Pair)
    → On p ts → times p (booked ts) ≡ 1
once_each ts ps l h p o = times_one p (booked ts) (few_different ts ps l h) (on_booked ts p o)

-- ---- one transfer heard again and again

pub since_append : (ts us vs : Line Pair) → since ts (us ⧺ vs) ≡ since (ts ⧺ us) vs ++ since ts us
since_append ts us start = refl
since_append ts us (vs ▸ q) =
    rw (⧺-assoc ts us vs)
    (since_entering (among q (last32 (booked (ts ⧺ us ⧺ vs)))) q (since (ts ⧺ us) vs) (since ts us) (since ts (us ⧺ vs))
    (since_append ts us vs))

not_again_split : (ts us : Line Pair) (p q : Pair) (t : Bool) → among q (last32 (booked (ts ▸ p ⧺ us))) ≡ t
    → IsBooked ts p
    → (length (since (ts ▸ p) us) ≤ 32 → In p (since (ts ▸ p) us) → ⊥)
    → length (entering t q (since (ts ▸ p) us)) ≤ 32 → In p (entering t q (since (ts ▸ p) us)) → ⊥
not_again_split ts us p q true e n ih l h = ih l h
not_again_split ts us p q false e n ih l (inl s) =
    let a = stays_booked ts us p n (omega arith) in
    among_false q (last32 (booked (ts ▸ p ⧺ us))) e (subst (IsAgain (ts ▸ p ⧺ us)) s a)
not_again_split ts us p q false e n ih l (inr h) = ih (omega arith) h

-- one that was booked is not booked among the next 32 bookings
pub not_again : (ts us : Line Pair) (p : Pair) → IsBooked ts p → length (since (ts ▸ p) us) ≤ 32
    → In p (since (ts ▸ p) us) → ⊥
not_again ts start p n l h = h
not_again ts (us ▸ q) p n l h =
    not_again_split ts us p q (among q (last32 (booked (ts ▸ p ⧺ us)))) refl n (not_again ts us p n) l h

pub once_heard : (ts us : Line Pair) (p : Pair) → IsBooked ts p → length (since (ts ▸ p) us) ≤ 32
    → times p (since ts (start ▸ p ⧺ us)) ≡ 1
once_heard ts us p n l =
    let before = times_none p (since (ts ▸ p) us) (not_again ts us p n l) in
    let own = times_one p (p ∷ []) (λ h. h, tt) (inl refl) in
    let both = times_append p (since (ts ▸ p) us) (since ts (start ▸ p)) in
    rw (since_append ts (start ▸ p) us, both, among_not p (last32 (booked ts)) n) (omega arith)
