-- How many reports lead from a header's to those of its blocks. Assumes nothing.
use Prim.Native.Nat.{ℕ, zero, suc, ◌+◌, ◌*◌, ◌%◌, ◌≤◌, ◌<◌}
use native.Mathlib.Omega.{arith}
use mathlib.Core.Path.{◌≡◌, refl, sym, ◌∙◌, ap, subst, subst⁻¹}
use mathlib.Core.Logic.{◌↔◌, inl, inr}
use mathlib.Core.Bool.{Bool, true, false, cond}
use mathlib.Core.List.{List}
use lib.Dec.{eqb, leb}
use borrow.Author.Tests.{leb-true, leb-false}
use Rattle.blocks.specs.Slots.{next_frame, frames_to, due_frame}
use Rattle.blocks.proofs.SlotLaws.{Passes, first_soon, after_headers, in_order, next_soon, due_range, frames_closed}
use Rattle.blocks.proofs.SlotLaws.{no_later, frames_from}
use Rattle.blocks.specs.declared.header.Fields.{Fields}
use Rattle.history.specs.Line.{Line, start, ◌▸◌, ◌⧺◌, count, Every}
use Rattle.history.specs.Slots.{same_place, next, tick, due, Heard, fragmented, frag, Report}
use Rattle.history.specs.History.{History, final, InTurn, Unbroken, frames, dues, Run, IsOpen, next_due, Closes}
use Rattle.history.specs.History.{Opens}
use Rattle.history.specs.Fate.{Way, still_open, handed_over, dropped, opened_anew, Renews, EndsBy, by_end}
use Rattle.history.specs.Fate.{by_drop, by_repeat, Still, Fate, not_ended, ended}
use Rattle.history.specs.Lasts.{slots_on, slots_to, over_18, lasts, IsOver}
use Rattle.history.specs.declared.Place.{Place}
use Rattle.history.proofs.Lines.{⧺-assoc, every_parts}
use Rattle.history.proofs.Turns.{slot_after, next_range, frame_after, nth_slot, next_nth, first_next}
use Rattle.history.proofs.Verdicts.{absurd_bool}
use Rattle.history.proofs.OpenRun.{same_place_true, same_place_is, turns_on, count_each}
use Rattle.history.proofs.Bounds.{Sized, Framed}
use Rattle.history.proofs.FateHolds.{dropped_or_handed_over}

-- ---- Slots, counted.

pub framed_on : (n : ℕ) (p : Place) → Framed p → Framed (slots_on n p)
framed_on zero p k = k
framed_on (suc n) p k = let q = framed_on n p k in next_range (slots_on n p) q.0 q.1

nth_on : (n : ℕ) (p : Place) → nth_slot (slots_on n p) % 36 ≡ (nth_slot p + n) % 36
nth_on zero p = omega arith
nth_on (suc n) p = let e = next_nth (slots_on n p) in let h = nth_on n p in omega arith

-- Reports in turn: the last of them is so many slots on.
pub final_on : (p : Place) (rs : History) → InTurn p rs → final p rs ≡ slots_on (count rs) p
final_on p start t = refl
final_on p (rs ▸ r) t = t.1 ∙ ap next (final_on p rs t.0)

-- Two slots a frame.
abbrev third_in : Place → ℕ
third_in q = cond (eqb q.slot 1) 0 1

slots_gone : (p : Place) (rs : History) → InTurn p rs → count rs + third_in p ≡ 2 * frames rs + third_in (final p rs)
slots_gone p start t = omega arith
slots_gone p (rs ▸ r) t =
    subst⁻¹ (λ (z : Place). suc (count rs) + third_in p ≡ 2 * tick z (frames rs) + third_in z) t.1
    (go (eqb (final p rs).slot 1) (slots_gone p rs t.0))
  where
    go : (b : Bool) → count rs + third_in p ≡ 2 * frames rs + cond b 0 1
        → let z = slot_after b (final p rs).frame in
        suc (count rs) + third_in p ≡ 2 * tick z (frames rs) + third_in z
    go true e = omega arith
    go false e = omega arith

-- ---- The due slots of a header.

module _ (p : Place) (f : ℕ) where
  abbrev to : ℕ → ℕ
  to i = slots_to p f i

  third_le : third_in p ≤ 1
  third_le = go (eqb p.slot 1)
    where
      go : (b : Bool) → cond {A = ℕ} b 0 1 ≤ 1
      go true = omega arith
      go false = omega arith

  -- None at once, each later than those before it, and none much later.
  to_some : (i : ℕ) → 0 < to i
  to_some i = let t = third_le in let l = after_headers p.frame f i in omega arith

  to_later : (i j : ℕ) → i < j → to i < to j
  to_later i j h =
      let t = third_le in
      let a = after_headers p.frame f i in
      let l = in_order p.frame f i j h in
      omega arith

  to_up : (i j : ℕ) → i ≤ j → to i ≤ to j
  to_up i j h = let l = no_later p.frame f i j h in omega arith

  to_first : to 0 ≤ 2 * f + 4
  to_first = go (first_soon p.frame f)
    where
      go : Passes p.frame (suc f) (frames_to p.frame f 0) → to 0 ≤ 2 * f + 4
      go (inl (e, h)) = omega arith
      go (inr (e, h)) = omega arith

  to_soon : (i : ℕ) → to (suc i) ≤ to i + 4
  to_soon i =
      let t = third_le in
      let a = after_headers p.frame f i in
      let l = next_soon p.frame f i in
      omega arith

  module _ (k : Framed p) where
    -- So many slots on the due slot comes.
    pub in_slots : (i : ℕ) → slots_on (to i) p ≡ due p.frame f i
    in_slots i = go (to i) refl
      where
        go : (n : ℕ) → to i ≡ n → slots_on n p ≡ due p.frame f i
        go zero e = let l = to_some i in absurd (omega arith)
        go (suc n) e =
            let d = due_range p.frame f i in
            let q = framed_on n p k in
            let h = nth_on n p in
            let t = third_le in
            let a = after_headers p.frame f i in
            sym (first_next (slots_on n p) (due_frame p.frame f i) d.0 d.1 q.0 q.1 (omega arith))

    -- ---- Reports in turn after the header's.

    module _ (low : f ≤ 3) where
      -- After n reports so many due slots have come, and not the next one.
      record Come (d n : ℕ) : Type 0 where
        come : (j : ℕ) → j < d → to j ≤ n
        not_yet : n < to d

      near : (d n : ℕ) → Come d n → to d ≤ n + 10
      near zero n c = let l = to_first in omega arith
      near (suc d) n c = let l = to_soon d in let h = c.come d (omega arith) in omega arith

      -- The slot after these is the due one where it is so many slots on, and only there.
      due_on : (d n : ℕ) → Come d n → (slots_on (suc n) p ≡ due p.frame f d) ↔ (suc n ≡ to d)
      due_on d n c = (
        λ e.
            let l = c.not_yet in
            let h = near d n c in
            let a = nth_on (suc n) p in
            let b = nth_on (to d) p in
            let g : nth_slot (slots_on (suc n) p) ≡ nth_slot (slots_on (to d) p) = ap nth_slot (e ∙ sym (in_slots d)) in
            omega arith,
        λ e. ap (λ (m : ℕ). slots_on m p) e ∙ in_slots d,
      )

      one_more : (d n : ℕ) (b : Bool) → Come d n → (b ≡ true → suc n ≡ to d) → (suc n ≡ to d → b ≡ true)
          → Come (cond b (suc d) d) (suc n)
      one_more d n true c e g =
          let h = e refl in
          record {
            come = λ j l. let u = to_up j d (omega arith) in omega arith;
            not_yet = let u = to_later d (suc d) (omega arith) in omega arith;
          }
      one_more d n false c e g =
          let l = c.not_yet in
          let h : suc n ≡ to d → ⊥ = λ z. absurd_bool (g z) in
          record { come = λ j u. let y = c.come j u in omega arith; not_yet = omega arith }

      come_in : (rs : History) → InTurn p rs → Come (count (dues p.frame f rs)) (count rs)
      come_in start t = record { come = λ j l. absurd (omega arith); not_yet = to_some 0 }
      come_in (rs ▸ r) t =
          let d = count (dues p.frame f rs) in
          let q = due p.frame f d in
          let c = come_in rs t.0 in
          let e = final_on p (rs ▸ r) t in
          let h = due_on d (count rs) c in
          subst (λ (m : ℕ). Come m (suc (count rs)))
          (grown (same_place r.place q) (dues p.frame f rs) r.heard)
          (one_more d (count rs) (same_place r.place q) c (λ b. h.0 (sym e ∙ same_place_true r.place q b))
          (λ z. same_place_is r.place q (e ∙ h.1 z)))
        where
          grown : (b : Bool) (l : Line Heard) (x : Heard) → cond b (suc (count l)) (count l) ≡ count (cond b (l ▸ x) l)
          grown true l x = refl
          grown false l x = refl

      -- The next due slot is still to come, and the slot after these is that one at so many reports, and only there.
      pub to_come_lem : (rs : History) → InTurn p rs → count rs < to (count (dues p.frame f rs))
      to_come_lem rs t = (come_in rs t).not_yet

      pub due_next : (rs : History) → InTurn p rs → let d = count (dues p.frame f rs) in
          (slots_on (suc (count rs)) p ≡ due p.frame f d) ↔ (suc (count rs) ≡ to d)
      due_next rs t = due_on (count (dues p.frame f rs)) (count rs) (come_in rs t)

      -- The due slots that have come are those that so many reports reach.
      pub in_reports : (rs : History) → InTurn p rs → (i : ℕ)
          → (i < count (dues p.frame f rs)) ↔ (to i ≤ count rs)
      in_reports rs t i =
          let d = count (dues p.frame f rs) in
          let c = come_in rs t in
          (c.come i, λ h. go d c.not_yet h (leb d i) refl)
        where
          go : (d : ℕ) → count rs < to d → to i ≤ count rs → (b : Bool) → leb d i ≡ b → i < d
          go d l h true e = let u = to_up d i (leb-true d i e) in absurd (omega arith)
          go d l h false e = leb-false d i e

-- At most 38, with a countdown of at most 3 and at most fifteen blocks.
pub most : (p : Place) (f i : ℕ) → f ≤ 3 → i ≤ 14 → slots_to p f i ≤ 38
most p f i l h =
    go (over_18 p.frame f i) (frames_closed p.frame f i (omega arith))
    (one (leb 18 (next_frame (p.frame + f) + i)))
  where
    one : (b : Bool) → cond {A = ℕ} b 1 0 ≤ 1
    one true = omega arith
    one false = omega arith

    go : (e : ℕ) → frames_to p.frame f i ≡ f + suc i + e → e ≤ 1 → slots_to p f i ≤ 38
    go e g u = omega arith

-- ---- An open run.

-- A report's numbers as accepted ones have them.
abbrev pub AsRead : Report → Type 0
AsRead r = Framed r.place × Sized r.heard

-- Then those of the run's header are in range.
pub record Ranged (u : Run) : Type 0 where
  pub frame : Framed u.place
  pub countdown : u.countdown ≤ 3
  pub blocks : u.more ≤ 14

pub ranged : {hs : History} {u : Run} → Every AsRead hs → IsOpen hs u → Ranged u
ranged {hs} {u} z o =
    let h : Report = record { place = u.place; heard = fragmented u.header u.more u.countdown } in
    let (y, l) = every_parts AsRead (o.before ▸ h) u.since (subst (Every AsRead) o.split z) in
    record { frame = y.1.0; countdown = y.1.1.2; blocks = y.1.1.1 }

-- It lasts at most 38 reports.
pub lasts_most : {u : Run} → Ranged u → lasts u ≤ 38
lasts_most {u} k = most u.place u.countdown u.more k.countdown k.blocks

module _ {hs : History} {u : Run} (o : IsOpen hs u) (k : Ranged u) where
  abbrev to_block : ℕ → ℕ
  to_block i = slots_to u.place u.countdown i

  kept : count (dues u.place.frame u.countdown u.since) ≡ count u.blocks
  kept = ap count o.held ∙ count_each frag u.blocks

  -- Its last due slot is still to come.
  pub open_until : count u.since < lasts u
  open_until =
      let l = to_up u.place u.countdown (count u.blocks) u.more o.short in
      let h = to_come_lem u.place u.countdown k.frame k.countdown u.since o.turns in
      let e = ap to_block kept in
      omega arith

  -- A report in turn is in the slot of its next block at so many reports.
  due_when : (r : Report) → Unbroken hs r.place → r.place ≡ next_due u
      → suc (count u.since) ≡ to_block (count u.blocks)
  due_when r t d =
      let p : Report = record { place = u.place; heard = fragmented u.header u.more u.countdown } in
      let e = turns_on o.before u.since p r.place o.split t
      ∙ ap next (final_on u.place u.since o.turns) in
      (due_next u.place u.countdown k.frame k.countdown u.since o.turns).0
      (sym e ∙ d ∙ ap (due u.place.frame u.countdown) (sym kept))
      ∙ ap to_block kept

-- Handed over it is at the report of its last due slot.
pub closed_when : {hs : History} {r : Report} {g : Fields} {m : List Bool} (c : Closes hs r g m) → Ranged c.run
    → suc (count c.run.since) ≡ lasts c.run
closed_when {r = r} c k =
    due_when c.is_open k r c.unbroken c.in_due
    ∙ ap (slots_to c.run.place c.run.countdown) c.full

-- A repeat of its own header leaves its due slots where they are.
pub repeat_stays : {hs : History} {u : Run} {r : Report} → Framed u.place → (z : Renews hs u r) → (i : ℕ)
    → slots_to u.place u.countdown i ≡ suc (count u.since) + slots_to r.place z.countdown i
repeat_stays {u = u} {r} k z i =
    let o = z.is_open in
    let p : Report = record { place = u.place; heard = fragmented u.header u.more u.countdown } in
    let rs = u.since ▸ r in
    let t : InTurn u.place rs =
    (o.turns, turns_on o.before u.since p r.place o.split z.unbroken) in
    let x = u.place.frame in
    let c = z.countdown in
    let e = frame_after u.place rs k.0 k.1 t in
    let g = slots_gone u.place rs t in
    let h : frames_to x u.countdown i ≡ frames rs + frames_to r.place.frame c i =
    ap (λ (f : ℕ). frames_to x f i) z.repeats.3 ∙ frames_from x r.place.frame (frames rs) c i k.0 e in
    let a = after_headers r.place.frame c i in
    let b = third_le u.place c in
    let d = third_le r.place c in
    omega arith

-- ---- What becomes of an assembly that was opened.

-- While it is still open its last due slot is to come.
still_short : {before : History} {o : Report} {since : History} {u : Run} → Every AsRead ((before ▸ o) ⧺ since)
    → Still before o since u → count since ≤ 37
still_short {since = since} {u} z s =
    let k = ranged z s.is_open in
    let l = open_until s.is_open k in
    let h = lasts_most k in
    let e : count u.since ≡ count since = ap count s.its_own in
    omega arith

abbrev open_way : Way → Bool
open_way still_open = true
open_way handed_over = false
open_way dropped = false
open_way opened_anew = false

ended_way : {hs : History} {u : Run} {r : Report} {w : Way} → EndsBy hs u r w → w ≡ still_open → ⊥
ended_way (by_end l c) e = absurd_bool (ap open_way e)
ended_way (by_drop o x) e = absurd_bool (ap open_way e)
ended_way (by_repeat z) e = absurd_bool (ap open_way e)

pub theorem_over : (before : History) (o : Report) (since : History) → Every AsRead ((before ▸ o) ⧺ since) → Opens o
    → 38 ≤ count since → IsOver before o since 38
theorem_over before o since z y l = go (dropped_or_handed_over.some before o since y).fate
  where
    go : {w : Way} {n : ℕ} → Fate before o since w n → IsOver before o since 38
    go (not_ended u s) = let h = still_short z s in absurd (omega arith)
    go (ended until later r u w e s x) =
        let (a, b) =
        every_parts AsRead ((before ▸ o) ⧺ (until ▸ r)) later
        (subst (Every AsRead) (ap (λ (h : History). (before ▸ o) ⧺ h) e ∙ ⧺-assoc (before ▸ o) (until ▸ r) later) z) in
        let h = still_short a.0 s in
        record {
          way = w;
          at = suc (count until);
          fate = ended until later r u w e s x;
          ended = ended_way x;
          soon = omega arith;
        }
