-- Request 06 holds. Assumes nothing.
use mathlib.Core.Path.{◌≡◌, refl, sym, ap, ◌∙◌, subst⁻¹}
use mathlib.Core.Logic.{◌⊎◌, inl, inr}
use mathlib.Core.Bool.{Bool, true, false, cond}
use mathlib.Core.List.{List, [], ◌∷◌, ◌++◌, map, map-append}
use Prim.Native.Nat.{ℕ, zero, suc, ◌+◌, ◌-◌, ◌*◌, ◌%◌, ◌≤◌}
use native.Mathlib.Omega.{arith}
use lib.ListN.{length, take, drop, replicate, length-append, length-replicate}
use lib.Seq.{take_at, drop_at}
use Rattle.blocks.specs.Faults.{first_of}
use Rattle.blocks.specs.Slots.{frame_number, passing, frames_to}
use Rattle.blocks.proofs.SlotLaws.{passing_from, frames_from}
use Rattle.history.specs.Lasts.{slots_on}
use Rattle.history.specs.declared.Place.{Place}
use Rattle.answering.specs.Calendar.{was_fragmented, last_frame, first_frame, header_at, end_at, headers, ends}
use Rattle.answering.specs.Calendar.{passed_over, has_end, slots_from, slots, response_rules, Fits, no_slot}
use Rattle.answering.specs.Calendar.{with_slots, calendar_at}
use Rattle.answering.specs.Calendar.{calendar_of}
use Rattle.answering.specs.Laid.{All, none, more, Laid}
use Rattle.answering.specs.declared.Response.{Response}
use Rattle.answering.specs.declared.Slot.{Slot}
use Rattle.answering.specs.declared.Calendar.{Calendar}
use Rattle.answering.proofs.FrameLaws.{fits, taken, granted}
use Rattle.answering.proofs.FillingLaws.{slots_length}
use Rattle.answering.proofs.LaidHolds.{laid}
use Rattle.demands.specs.Req06.{place_of, slots_gone, Given, Plans, heard_on, from_earlier, Req06}
use Rattle.demands.proofs.Demand1Holds.{settles, number_is}

-- ---- slot by slot from slot 1 of frame X

abbrev place : ℕ → ℕ → Place
place frame slot = record { frame = frame; slot = slot }

-- slot 1 of the frame that comes k frames after frame x
first_on : (x k : ℕ) → 1 ≤ x → x ≤ 18 → slots_on (2 * k) (place x 1) ≡ place (frame_number x k) 1
first_on x zero l u = ap (λ (y : ℕ). place y 1) (omega arith)
first_on x (suc k) l u =
    let n : 2 * suc k ≡ suc (suc (2 * k)) = omega arith in
    let e : frame_number x k % 18 + 1 ≡ frame_number x (suc k) = omega arith in
    rw (n, first_on x k l u) (ap (λ (y : ℕ). place y 1) e)

third_on : (x k : ℕ) → 1 ≤ x → x ≤ 18 → slots_on (2 * k + 1) (place x 1) ≡ place (frame_number x k) 3
third_on x k l u = let n : 2 * k + 1 ≡ suc (2 * k) = omega arith in rw (n, first_on x k l u) refl

real_slot : (x : ℕ) → 1 ≤ x → x ≤ 18 → (s : Slot) → (s.slot ≡ 1) ⊎ (s.slot ≡ 3) → s.frame ≡ frame_number x s.from
    → place_of s ≡ slots_on (slots_gone s) (place x 1)
real_slot x l u s (inl e) f =
    let n : 2 * s.from + 0 ≡ 2 * s.from = omega arith in rw (e, f, n) (sym (first_on x s.from l u))
real_slot x l u s (inr e) f = rw (e, f) (sym (third_on x s.from l u))

real_slots : (x : ℕ) → 1 ≤ x → x ≤ 18 → {c : List Slot} → All (λ s. (s.slot ≡ 1) ⊎ (s.slot ≡ 3)) c
    → All (λ s. s.frame ≡ frame_number x s.from) c
    → All (λ s. place_of s ≡ slots_on (slots_gone s) (place x 1)) c
real_slots x l u none none = none
real_slots x l u (more {x = y} e es) (more f fs) = more (real_slot x l u y e f) (real_slots x l u es fs)

-- ---- what is answered

given : (r : Response) → Fits r → Given r (with_slots (slots r))
given r k =
    let l = slots r in
    let z = replicate (9 - length l) no_slot in
    let n = slots_length r k in
    let its : take (length l) (l ++ z) ≡ l = take_at l z (length l) refl in
    let d = laid r k in
    record {
      fits = k;
      some = n.0;
      nine = omega (arith, length-append l z, length-replicate (9 - length l) no_slot);
      its_slots = its;
      others = drop_at l z (length l) refl;
      laid = subst⁻¹ (Laid r) its d;
      real = subst⁻¹ (All (λ s. place_of s ≡ slots_on (slots_gone s) (place r.frame 1))) its
          (real_slots r.frame k.frame.0 k.frame.1 d.slots d.numbers);
    }

plans : (r : Response) → Plans r (calendar_of r)
unfolding calendar_of
plans r =
    let rules = response_rules r in
    record {
      settled =
          settles rules (number_is (λ n. (calendar_at n (slots r)).fault) refl (λ n. refl) (first_of rules))
          (λ n e. rw e refl);
      given = go (first_of rules) refl;
    }
  where
    go : (n : ℕ) → first_of (response_rules r) ≡ n → (calendar_at n (slots r)).fault ≡ 0
        → Given r (calendar_at n (slots r))
    go zero e z = given r (fits r e)
    go (suc n) e z = absurd (omega arith)

-- ---- from another repeat

drop_map : (f : Slot → Slot) (n : ℕ) (c : List Slot) → drop n (map f c) ≡ map f (drop n c)
drop_map f zero c = refl
drop_map f (suc n) [] = refl
drop_map f (suc n) (s ∷ c) = drop_map f n c

module _ (x g : ℕ) (l : 1 ≤ x) where
  abbrev y : ℕ
  y = frame_number x g

  same_number : (k : ℕ) → frame_number x (g + k) ≡ frame_number y k
  same_number k = omega arith

  same_header : (k slot n : ℕ) → header_at x (g + k) slot n ≡ from_earlier g (header_at y k slot n)
  same_header k slot n = rw (same_number k) refl

  same_end : (k : ℕ) → end_at x (g + k) ≡ from_earlier g (end_at y k)
  same_end k = rw (same_number k) refl

  same_headers : (k m : ℕ) → headers x (g + k) m ≡ map (from_earlier g) (headers y k m)
  same_headers k zero = refl
  same_headers k (suc m) =
      let n : suc (g + k) ≡ g + suc k = omega arith in
      rw (same_header k 1 m, same_header k 3 m, n, same_headers (suc k) m) refl

  same_ends : (told : Bool) (k : ℕ) → ends told x (g + k) ≡ map (from_earlier g) (ends told y k)
  same_ends true k = rw (passing_from x y g k (same_number k), same_end (passing y k)) refl
  same_ends false k = refl

  same_slots : (k m over : ℕ) (told : Bool)
      → slots_from x (g + k) m over told ≡ map (from_earlier g) (slots_from y k m over told)
  same_slots k m over told =
      let n : g + k + m ≡ g + (k + m) = omega arith in
      rw (same_headers k m, n, same_ends told (k + m), drop_map (from_earlier g) over (headers y k m))
      (sym (map-append (from_earlier g) (drop over (headers y k m)) (ends told y (k + m))))

module _ (r : Response) (k : Fits r) (g : ℕ) (l : g ≤ r.countdown) where
  abbrev later_on : Response
  later_on = heard_on g r

  same_last : last_frame r ≡ g + last_frame later_on
  same_last = go (was_fragmented r.answered)
    where
      go : (t : Bool) → cond t (frames_to r.frame r.countdown (r.count - 1)) r.countdown
          ≡ g + cond t (frames_to (frame_number r.frame g) (r.countdown - g) (r.count - 1)) (r.countdown - g)
      go true =
          let n : r.countdown ≡ r.countdown - g + g = omega arith in
          ap (λ (f : ℕ). frames_to r.frame f (r.count - 1)) n
          ∙ frames_from r.frame (frame_number r.frame g) g (r.countdown - g) (r.count - 1) k.frame.0 refl
      go false = omega arith

  same_first : first_frame r ≡ g + first_frame later_on
  same_first = let e = same_last in omega arith

  heard_fits : Fits later_on
  heard_fits =
      let f = k.countdown in
      record {
        frame = (omega arith, omega arith);
        countdown = omega arith;
        answered = k.answered;
        count = k.count;
        dn210 = k.dn210;
        frames = k.frames;
        blocks = k.blocks;
      }

  any_repeat : Fits later_on × (slots r ≡ map (from_earlier g) (slots later_on))
  any_repeat = (
    heard_fits,
    ap (λ (z : ℕ). slots_from r.frame z r.frames (passed_over r.slot1) (has_end r)) same_first
        ∙ same_slots r.frame g k.frame.0 (first_frame later_on) r.frames (passed_over r.slot1) (has_end r),
  )

pub req06 : Req06
req06 =
    record {
      plans = plans;
      taken = λ r. (λ e. ((plans r).given e).fits, λ k. ap (λ (c : Calendar). c.fault) (sym (granted r (taken r k))));
      any_repeat = any_repeat;
    }
