-- The slots of a response are as they have to be. Assumes nothing.
use mathlib.Core.Path.{◌≡◌, refl, sym, ap, ◌∙◌}
use mathlib.Core.Logic.{◌⊎◌, inl, inr}
use mathlib.Core.Bool.{Bool, true, false, cond, ◌&&◌, true≢false}
use mathlib.Core.List.{List, [], ◌∷◌, ◌++◌}
use Prim.Native.Nat.{ℕ, zero, suc, ◌+◌, ◌-◌, ◌≤◌, ◌<◌}
use native.Mathlib.Omega.{arith}
use lib.Dec.{eqb, leb, ltb}
use lib.ListN.{get_or, drop}
use borrow.Author.Tests.{ne_eqb, lt-ltb, le-ltb, leb-true, leb-false}
use Rattle.blocks.specs.Slots.{frame_number, passing, frames_to}
use Rattle.blocks.proofs.SlotLaws.{Passes, passes, no_later, after_headers}
use Rattle.answering.specs.Calendar.{yes, was_fragmented, last_frame, first_frame, header_at, end_at, headers}
use Rattle.answering.specs.Calendar.{passed_over}
use Rattle.answering.specs.Calendar.{has_end, ends, slots_from, slots, no_slot, Fits}
use Rattle.answering.specs.Laid.{All, none, more}
use Rattle.answering.specs.Laid.{counted, repeats, blocks, own_slots, Same, Before, InOrder, to_come}
use Rattle.answering.specs.Laid.{First, EndsLast, Laid}
use Rattle.answering.specs.declared.Response.{Response}
use Rattle.answering.specs.declared.Slot.{Slot}
use Rattle.answering.proofs.FrameLaws.{over_few}
use Rattle.answering.proofs.AllLaws.{all_append, all_drop, all_map}

-- ---- the answered message's own slots are none of a later frame

both_by : (f : ℕ) → All (λ o. o.from ≤ f) (counted f 1 ∷ counted f 3 ∷ [])
both_by f =
    let l : f ≤ f = omega arith in
    more {x = counted f 1} l (more {x = counted f 3} l none)

repeats_by : (f : ℕ) → All (λ o. o.from ≤ f) (repeats f)
repeats_by zero = both_by 0
repeats_by (suc f) = all_append (all_map (λ o l. omega arith) (repeats_by f)) (both_by (suc f))

blocks_by : (x f n k : ℕ) → ((i : ℕ) → i < n → frames_to x f i ≤ k) → All (λ o. o.from ≤ k) (blocks x f n)
blocks_by x f zero k h = none
blocks_by x f (suc i) k h = all_append (blocks_by x f i k (λ j l. h j (omega arith))) (more (h i (omega arith)) none)

own_by : (r : Response) → Fits r → All (λ o. o.from ≤ last_frame r) (own_slots r)
own_by r k = go (was_fragmented r.answered) refl
  where
    go : (t : Bool) → was_fragmented r.answered ≡ t
        → All (λ o. o.from ≤ cond t (frames_to r.frame r.countdown (r.count - 1)) r.countdown)
        (repeats r.countdown ++ blocks r.frame r.countdown (cond t r.count 0))
    go true e =
        let l = after_headers r.frame r.countdown (r.count - 1) in
        all_append (all_map (λ o m. omega arith) (repeats_by r.countdown))
        (blocks_by r.frame r.countdown r.count (frames_to r.frame r.countdown (r.count - 1))
        (λ i m. no_later r.frame r.countdown i (r.count - 1) (omega arith)))
    go false e = all_append (repeats_by r.countdown) none

-- ---- the response's headers

-- in slots 1 and 3 of frame j, so many frames before the last
each_header : {P : Slot → Type 0} (x k m : ℕ)
    → ((j slot n : ℕ) → k ≤ j → j + suc n ≡ k + m → (slot ≡ 1) ⊎ (slot ≡ 3) → P (header_at x j slot n))
    → All P (headers x k m)
each_header x k zero h = none
each_header x k (suc m) h =
    more (h k 1 m (omega arith) refl (inl refl))
    (more (h k 3 m (omega arith) refl (inr refl))
    (each_header x (suc k) m (λ j slot n l e s. h j slot n (omega arith) (omega arith) s)))

headers_after : (x k m : ℕ) → All (λ s. k ≤ s.from) (headers x k m)
headers_after x k m = each_header x k m (λ j slot n l e s. l)

-- in order
append_ordered : (a : List Slot) {b : List Slot} → InOrder a → InOrder b → All (λ s. All (Before s) b) a
    → InOrder (a ++ b)
append_ordered [] p q c = q
append_ordered (s ∷ a) p q (more c cs) = (all_append p.0 c, append_ordered a p.1 q cs)

drop_ordered : (n : ℕ) (l : List Slot) → InOrder l → InOrder (drop n l)
drop_ordered zero l p = p
drop_ordered (suc n) [] p = p
drop_ordered (suc n) (s ∷ l) p = drop_ordered n l p.1

headers_ordered : (x k m : ℕ) → InOrder (headers x k m)
headers_ordered x k zero = tt
headers_ordered x k (suc m) =
    let later = headers_after x (suc k) m in (
      more {x = header_at x k 3 m} (inr (refl, omega arith)) (all_map (λ s l. inl (omega arith)) later),
      (all_map (λ s l. inl (omega arith)) later, headers_ordered x (suc k) m),
    )

-- how many frames are to come
come_append : (j : ℕ) (a b : List Slot) → to_come j (a ++ b) ≡ to_come j a + to_come j b
come_append j [] b = omega arith
come_append j (s ∷ a) b =
    go (eqb s.what 1 && (eqb s.slot 3 && ltb j s.from)) (come_append j a b)
  where
    go : (t : Bool) → to_come j (a ++ b) ≡ to_come j a + to_come j b
        → cond t (suc (to_come j (a ++ b))) (to_come j (a ++ b))
        ≡ cond t (suc (to_come j a)) (to_come j a) + to_come j b
    go true e = omega arith
    go false e = e

all_to_come : (x k m j : ℕ) → j < k → to_come j (headers x k m) ≡ m
all_to_come x k zero j l = refl
all_to_come x k (suc m) j l = rw (lt-ltb j k l) (ap suc (all_to_come x (suc k) m j (omega arith)))

still_to_come : (x k m j : ℕ) → k ≤ j → to_come j (headers x k m) ≡ k + m - suc j
still_to_come x k zero j l = omega arith
still_to_come x k (suc m) j l = rw (le-ltb j k l) (go (leb (suc k) j) refl (still_to_come x (suc k) m j))
  where
    go : (t : Bool) → leb (suc k) j ≡ t → (suc k ≤ j → to_come j (headers x (suc k) m) ≡ suc k + m - suc j)
        → to_come j (headers x (suc k) m) ≡ k + suc m - suc j
    go true e h = h (leb-true (suc k) j e) ∙ omega arith
    go false e h = let d = leb-false (suc k) j e in all_to_come x (suc k) m j (omega arith) ∙ omega arith

-- without the first slot, which is slot 1, as many are
come_over : (x k m over j : ℕ) → over ≤ 1 → to_come j (drop over (headers x k m)) ≡ to_come j (headers x k m)
come_over x k m zero j l = refl
come_over x k zero (suc over) j l = refl
come_over x k (suc m) (suc zero) j l = refl
come_over x k (suc m) (suc (suc over)) j l = absurd (omega arith)

ends_none : (told : Bool) (x k j : ℕ) → to_come j (ends told x k) ≡ 0
ends_none true x k j = refl
ends_none false x k j = refl

-- ---- the slots of a response: its headers from slot `over` on, and a DMAC-END if it is told

module _ (x k m over : ℕ) (told : Bool) (least : 1 ≤ m) (one : over ≤ 1) where
  abbrev kept : List Slot
  kept = drop over (headers x k m)

  abbrev all : List Slot
  all = slots_from x k m over told

  -- the DMAC-END is in the frame after the last header's, or in the next where that is 18
  end_passes : Passes x (k + m) (passing x (k + m))
  end_passes = passes x (k + m)

  end_soon : (k + m ≤ passing x (k + m)) × (frame_number x (passing x (k + m)) ≤ 17)
  end_soon = go (passing x (k + m)) end_passes
    where
      go : (p : ℕ) → Passes x (k + m) p → (k + m ≤ p) × (frame_number x p ≤ 17)
      go p (inl (e, h)) = (omega arith, omega arith)
      go p (inr (e, h)) = (omega arith, omega arith)

  -- what holds of each header and of the DMAC-END
  at_end : {P : Slot → Type 0} (t : Bool) → P (end_at x (passing x (k + m))) → All P (ends t x (k + m))
  at_end true p = more p none
  at_end false p = none

  each : {P : Slot → Type 0}
      → ((j slot n : ℕ) → k ≤ j → j + suc n ≡ k + m → (slot ≡ 1) ⊎ (slot ≡ 3) → P (header_at x j slot n))
      → P (end_at x (passing x (k + m))) → All P all
  each h e = all_append (all_drop over (each_header x k m h)) (at_end told e)

  each_later : All (λ s. k ≤ s.from) all
  each_later = let p = end_soon.0 in each (λ j slot n l e s. l) (omega arith)

  end_ordered : (t : Bool) → InOrder (ends t x (k + m))
  end_ordered true = (none, tt)
  end_ordered false = tt

  all_ordered : InOrder all
  all_ordered =
      let p = end_soon.0 in
      append_ordered kept (drop_ordered over (headers x k m) (headers_ordered x k m)) (end_ordered told)
      (all_drop over (each_header x k m (λ j slot n l e s. at_end told (inl (omega arith)))))

  -- frames to come
  all_come : (j : ℕ) → to_come j all ≡ to_come j (headers x k m)
  all_come j =
      let e = come_append j kept (ends told x (k + m)) in
      let z = ends_none told x (k + m) j in
      let o = come_over x k m over j one in
      omega arith

  all_countdowns : All (λ s. s.what ≡ 1 → s.countdown ≡ to_come s.from all) all
  all_countdowns =
      each (λ j slot n l e s z. let c = all_come j in let d = still_to_come x k m j l in omega arith)
      (λ z. absurd (omega arith))

-- ---- the first slot, and the last header

first_slot : (x k m : ℕ) (used told : Bool) → 1 ≤ m
    → get_or (slots_from x k m (cond used 0 1) told) 0 no_slot ≡ header_at x k (cond used 1 3) (m - 1)
first_slot x k zero used told l = absurd (omega arith)
first_slot x k (suc m) true told l = let e : m ≡ suc m - 1 = omega arith in rw (← e) refl
first_slot x k (suc m) false told l = let e : m ≡ suc m - 1 = omega arith in rw (← e) refl

last_by : (x k m q : ℕ) → All (λ s. s.from < q) (headers x k m) → k < q → k + m ≤ q
last_by x k zero q p l = omega arith
last_by x k (suc zero) q p l = omega arith
last_by x k (suc (suc m)) q (more a (more b (more c p))) l =
    let n = last_by x (suc k) (suc m) q (more c p) c in omega arith

last_kept : (x k m over q : ℕ) → 1 ≤ m → over ≤ 1 → All (λ s. s.from < q) (drop over (headers x k m)) → k + m ≤ q
last_kept x k zero over q l o p = absurd (omega arith)
last_kept x k (suc m) zero q l o (more a p) = last_by x k (suc m) q (more a p) a
last_kept x k (suc zero) (suc zero) q l o (more a p) = omega arith
last_kept x k (suc (suc m)) (suc zero) q l o (more a (more b p)) =
    let n = last_by x (suc k) (suc m) q (more b p) b in omega arith
last_kept x k (suc m) (suc (suc over)) q l o p = absurd (omega arith)

-- ---- where it starts, by what is answered

first_plain : (r : Response) → r.answered ≡ 0 → first_frame r ≡ suc r.countdown
first_plain r e = rw e (omega arith)

first_connect : (r : Response) → r.answered ≡ 3 → first_frame r ≡ suc r.countdown + cond (yes r.later) 1 0
first_connect r e = rw e refl

not_connect : (a : ℕ) → was_fragmented a ≡ true → a ≡ 3 → ⊥
not_connect a e d = let z : false ≡ true = rw d at e in true≢false (sym z)

first_fragmented : (r : Response) → was_fragmented r.answered ≡ true
    → first_frame r ≡ suc (frames_to r.frame r.countdown (r.count - 1))
first_fragmented r e = rw (ne_eqb r.answered 3 (not_connect r.answered e), e) (omega arith)

-- ---- so all of it

-- what holds of each header, where there is no DMAC-END
each_without : {P : Slot → Type 0} (x k m over : ℕ)
    → ((j slot n : ℕ) → k ≤ j → j + suc n ≡ k + m → (slot ≡ 1) ⊎ (slot ≡ 3) → P (header_at x j slot n))
    → All P (slots_from x k m over false)
each_without x k m over h = all_append (all_drop over (each_header x k m h)) none

module _ (r : Response) (f : Fits r) where
  abbrev x : ℕ
  x = r.frame

  abbrev k : ℕ
  k = first_frame r

  abbrev m : ℕ
  m = r.frames

  abbrev over : ℕ
  over = passed_over r.slot1

  least : 1 ≤ m
  least = f.frames.0

  one : over ≤ 1
  one = over_few r.slot1

  own_clear : All (λ s. All (λ o. Same s o → ⊥) (own_slots r)) (slots r)
  own_clear =
      all_map (λ s l. all_map (λ o p z. omega (arith, z.0)) (own_by r f)) (each_later x k m over (has_end r) least one)

  starts : First r (get_or (slots r) 0 no_slot)
  starts =
      rw (first_slot x k m (yes r.slot1) (has_end r) least)
      (record {
        what = refl;
        slot = refl;
        from = refl;
        plain = λ e. let z = first_plain r e in omega arith;
        fragmented = λ e. let z = first_fragmented r e in omega arith;
        connect = λ e. let z = first_connect r e in omega arith;
      })

  ends_last : EndsLast r (slots_from x k m over true)
  ends_last =
      record {
        before = drop over (headers x k m);
        end = end_at x (passing x (k + m));
        split = refl;
        headers = all_drop over (each_header x k m (λ j slot n l e s. refl));
        what = refl;
        slot = refl;
        countdown = refl;
        later =
            let p = (end_soon x k m over true least one).0 in
            all_drop over (each_header x k m (λ j slot n l e s. omega arith));
        in_17 = (omega arith, (end_soon x k m over true least one).1);
        soon = λ q p l. go q (passing x (k + m)) (last_kept x k m over q least one p) l (passes x (k + m));
      }
    where
      go : (q p : ℕ) → k + m ≤ q → q < p → Passes x (k + m) p → frame_number x q ≡ 18
      go q p l n (inl (e, h)) = absurd (omega arith)
      go q p l n (inr (e, h)) = let z : q ≡ k + m = omega arith in rw z h

  one_frame : r.answered ≡ 2 → m ≡ 1
  one_frame e = let l : m ≤ 1 = rw e at f.frames.1 in omega arith

  no_end : r.answered ≡ 2 → has_end r ≡ false
  no_end e = rw e refl

  pub laid : Laid r (slots r)
  laid =
      record {
        clear = own_clear;
        in_order = all_ordered x k m over (has_end r) least one;
        slots = each x k m over (has_end r) least one (λ j slot n l e s. s) (inl refl);
        numbers = each x k m over (has_end r) least one (λ j slot n l e s. refl) refl;
        frames =
            all_come x k m over (has_end r) least one (last_frame r)
            ∙ all_to_come x k m (last_frame r) (omega arith);
        countdowns = all_countdowns x k m over (has_end r) least one;
        first = starts;
        fragmented = λ e. rw e ends_last;
        unfragmented = λ e. rw e (each_without x k m over (λ j slot n l e s. refl));
        lost = λ e. let z = one_frame e in rw (no_end e)
            (each_without x k m over (λ j slot n l d s. (omega arith, refl)));
      }
