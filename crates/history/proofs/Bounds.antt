-- What code that holds the state in fixed room needs: an assembly's numbers are bounded.
-- Assumes nothing.
use Prim.Native.Nat.{ℕ, suc, ◌+◌, ◌*◌, ◌-◌, ◌≤◌}
use native.Mathlib.Omega.{arith}
use mathlib.Core.Path.{◌≡◌, refl, sym, ◌∙◌, ap}
use mathlib.Core.Logic.{◌⊎◌, inl, inr}
use mathlib.Core.Bool.{Bool, true, false, cond, not}
use mathlib.Core.List.{List, [], ◌∷◌, ◌++◌}
use lib.Dec.{eqb}
use lib.ListN.{length, length-append}
use borrow.Author.Tests.{eqb-false}
use Rattle.history.specs.Line.{start, ◌▸◌, Every}
use Rattle.history.specs.Slots.{next, Heard, nothing, fragmented, unfragmented, frag, end}
use Rattle.history.specs.Slots.{header_in, countdown_in}
use Rattle.history.specs.declared.Place.{Place}
use Rattle.history.specs.declared.Near.{Near}
use Rattle.history.specs.declared.Verdict.{Verdict}
use Rattle.history.specs.Step.{Assembly, no_assembly, in_turn, is_over, is_due, older, older_near, near_of}
use Rattle.history.specs.Step.{fallen, near_after, changed, verdict_at, step, after}
use Rattle.history.specs.History.{History, Unbroken}
use Rattle.history.proofs.Verdicts.{Comes, passing, missing, keeping, closing, heading, comes_at, rest}
use Rattle.history.proofs.Verdicts.{absurd_bool, older_none, rest_at}
use Rattle.history.proofs.Turns.{slot_after}
use Rattle.history.proofs.OpenRun.{turn_true}

-- What a read gives of a block: at most 124 bits in a header, at most 15 slots, a countdown below 4, 264 bits in a
-- continuation.
abbrev pub Sized : Heard → Type 0
Sized nothing = Unit {0}
Sized (fragmented h more f) = (length h.bits ≤ 124) × (more ≤ 14) × (f ≤ 3)
Sized (unfragmented h f) = (length h.bits ≤ 124) × (f ≤ 3)
Sized (frag b) = length b ≤ 264
Sized (end b) = length b ≤ 264

-- A report's frame is 1 to 18.
abbrev pub Framed : Place → Type 0
Framed q = (1 ≤ q.frame) × (q.frame ≤ 18)

pub record Small (a : Assembly) : Type 0 where
  pub bits : length a.joined ≤ 124 + 264 * a.run.kept
  pub blocks : a.run.kept ≤ a.run.more
  pub slots : a.run.more ≤ 14
  pub falls : a.run.countdown ≤ 3
  pub repeat : a.run.again ≤ 4
  pub frame : a.run.frame ≤ 18
  pub held : ((a.run.held ≡ 1) × (1 ≤ a.run.frame)) ⊎ (a ≡ no_assembly)

small_none : Small no_assembly
small_none =
    record {
      bits = omega arith;
      blocks = omega arith;
      slots = omega arith;
      falls = omega arith;
      repeat = omega arith;
      frame = omega arith;
      held = inr refl;
    }

waned : (b : Bool) (n : ℕ) → n ≤ 4 → cond b (n - 1) n ≤ 4
waned true n h = omega arith
waned false n h = h

pub small_older : (t : Bool) (q : Place) (a : Assembly) → Small a → Small (older t q a)
small_older false q a s = small_none
small_older true q a s =
    record {
      bits = s.bits;
      blocks = s.blocks;
      slots = s.slots;
      falls = s.falls;
      repeat = waned (eqb q.slot 1) a.run.again s.repeat;
      frame = s.frame;
      held = elim s.held [ inl h ↦ inl h | inr e ↦ inr (ap (older true q) e ∙ older_none true q) ];
    }

small_step : {a : Assembly} {n : List Near} {q : Place} {lost : Bool} {x : Heard} {v : Verdict} → Framed q → Sized x
    → Small a → Comes a.run n q lost x v → Small (changed (rest q n a) q x v).assembly
small_step k z i (passing n d g) = i
small_step k z i (missing n d w g) = small_none
small_step {a} {q = q} k z i (keeping b d l) =
    let n = eqb-false a.run.kept a.run.more l in
    record {
      bits = omega (arith, length-append a.joined b, i.bits);
      blocks = omega (arith, i.blocks);
      slots = i.slots;
      falls = i.falls;
      repeat = i.repeat;
      frame = i.frame;
      held = elim i.held [
        | inl h ↦ inl h
        | inr e ↦ absurd_bool (sym (ap (λ (a : Assembly). is_due a.run q) e) ∙ d)
      ];
    }
small_step k z i (closing b d l) = small_none
small_step k z i (heading true w) =
    record {
      bits = omega arith;
      blocks = omega arith;
      slots = z.1;
      falls = z.2;
      repeat = omega (arith, z.2);
      frame = k.1;
      held = inl (refl, k.0);
    }
small_step k z i (heading false w) = small_none

pub theorem_small : (hs : History) → Every (λ r. Framed r.place × Sized r.heard) hs → Small (after hs).assembly
unfolding after step
theorem_small start z = small_none
theorem_small (hs ▸ r) z =
    let s = theorem_small hs z.0 in
    let s' = small_older (in_turn (after hs).last r.place) r.place (after hs).assembly s in
    small_step z.1.0 z.1.1 s' (comes_at hs r)

-- A store of 512 bytes holds the bits with one block more.
pub fits : (a : Assembly) (b : List Bool) → Small a → length b ≤ 264 → length (a.joined ++ b) ≤ 4096
fits a b s z = omega (arith, length-append a.joined b, s.bits, s.blocks, s.slots)

-- ---- Seven places are enough for the earlier headers: a countdown is at most 3, and two slots make a frame.

-- Twice the countdown of each, and as many as came after it, are at most so many.
abbrev Few : ℕ → List Near → Type 0
Few most [] = Unit {0}
Few most (n ∷ ns) = (2 * n.countdown + length ns ≤ most) × Few most ns

few_length : (most : ℕ) (ns : List Near) → Few most ns → length ns ≤ 1 + most
few_length most [] h = omega arith
few_length most (n ∷ ns) h = omega (arith, h.0)

few_more : (most : ℕ) (ns : List Near) (n : Near) → 2 * n.countdown ≤ 1 + most → Few most ns
    → Few (1 + most) (ns ++ (n ∷ []))
few_more most [] n l h = (omega arith, tt)
few_more most (m ∷ ns) n l h = (omega (arith, h.0, length-append ns (n ∷ [])), few_more most ns n l h.1)

few_wider : (most : ℕ) (ns : List Near) → Few most ns → Few (1 + most) ns
few_wider most [] h = tt
few_wider most (n ∷ ns) h = (omega (arith, h.0), few_wider most ns h.1)

pub fewer_fallen : (ns : List Near) → length (fallen ns) ≤ length ns
fewer_fallen [] = omega arith
fewer_fallen (n ∷ ns) = go (eqb n.countdown 0) (fewer_fallen ns)
  where
    go : (z : Bool) → length (fallen ns) ≤ length ns
        → length (cond z (fallen ns) (near_of n.raw (n.countdown - 1) ∷ fallen ns)) ≤ suc (length ns)
    go true h = omega arith
    go false h = omega arith

few_fallen : (most : ℕ) (ns : List Near) → Few (2 + most) ns → Few most (fallen ns)
few_fallen most [] h = tt
few_fallen most (n ∷ ns) h = go (eqb n.countdown 0) refl (few_fallen most ns h.1) (fewer_fallen ns)
  where
    go : (z : Bool) → eqb n.countdown 0 ≡ z → Few most (fallen ns) → length (fallen ns) ≤ length ns
        → Few most (cond z (fallen ns) (near_of n.raw (n.countdown - 1) ∷ fallen ns))
    go true e a l = a
    go false e a l = let z = eqb-false n.countdown 0 e in (omega (arith, h.0), a)

-- After a report, and when one comes: there are more in slot 3, where a header of slot 1 can still be copied.
abbrev most_after : Place → ℕ
most_after q = cond (is_over q) 5 6

abbrev most_before : Place → ℕ
most_before q = cond (is_over q) 6 5

most_next : (p : Place) → most_before (next p) ≡ most_after p
most_next p = go (eqb p.slot 1)
  where
    go : (b : Bool) → most_before (slot_after b p.frame) ≡ cond (not b) 5 6
    go true = refl
    go false = refl

few_after : (q : Place) (more : Bool) (n : Near) (ns : List Near) → n.countdown ≤ 3 → Few (most_before q) ns
    → Few (most_after q) (near_after (is_over q) more n ns)
few_after q more n ns l = go (is_over q) more
  where
    go : (o more : Bool) → Few (cond o 6 5) ns → Few (cond o 5 6) (near_after o more n ns)
    go true true h = few_fallen 5 (ns ++ (n ∷ [])) (few_more 6 ns n (omega arith) h)
    go true false h = few_fallen 5 ns (few_wider 6 ns h)
    go false true h = few_more 5 ns n (omega arith) h
    go false false h = few_wider 5 ns h

sized_countdown : (x : Heard) → Sized x → countdown_in x ≤ 3
sized_countdown nothing z = omega arith
sized_countdown (fragmented h more f) z = z.2
sized_countdown (unfragmented h f) z = z.1
sized_countdown (frag b) z = omega arith
sized_countdown (end b) z = omega arith

abbrev FewAfter : History → Type 0
FewAfter start = Unit {0}
FewAfter (hs ▸ r) = Few (most_after r.place) (after (hs ▸ r)).near

few_before : (hs : History) (q : Place) → FewAfter hs → Few (most_before q) (rest_at hs q).near
unfolding after step
few_before start q h = tt
few_before (hs ▸ r) q h = go (in_turn (after (hs ▸ r)).last q) (turn_true (hs ▸ r) q)
  where
    go : (t : Bool) → (t ≡ true → Unbroken (hs ▸ r) q) → Few (most_before q) (older_near t (after (hs ▸ r)).near)
    go false k = tt
    go true k = rw (k refl, most_next r.place) h

few : (hs : History) → Every (λ r. Framed r.place × Sized r.heard) hs → FewAfter hs
unfolding after step
few start z = tt
few (hs ▸ r) z =
    let v = verdict_at (after hs) r in
    few_after r.place v.near (near_of (header_in r.heard).raw (countdown_in r.heard))
    (rest_at hs r.place).near (sized_countdown r.heard z.1.1) (few_before hs r.place (few hs z.0))

pub theorem_seven : (hs : History) → Every (λ r. Framed r.place × Sized r.heard) hs → length (after hs).near ≤ 7
unfolding after step
theorem_seven start z = omega arith
theorem_seven (hs ▸ r) z = go (is_over r.place) (few (hs ▸ r) z)
  where
    go : (o : Bool) → Few (cond o 5 6) (after (hs ▸ r)).near → length (after (hs ▸ r)).near ≤ 7
    go true h = omega (arith, few_length 5 (after (hs ▸ r)).near h)
    go false h = few_length 6 (after (hs ▸ r)).near h

-- Where a header is to be kept, a place is free for it: once those that ran out with the frame are gone.
pub theorem_free : (hs : History) (q : Place) → Every (λ r. Framed r.place × Sized r.heard) hs
    → let ns = (rest_at hs q).near in length (cond (is_over q) (fallen ns) ns) ≤ 6
theorem_free hs q z = go (is_over q) (few_before hs q (few hs z))
  where
    go : (o : Bool) → let ns = (rest_at hs q).near in Few (cond o 6 5) ns → length (cond o (fallen ns) ns) ≤ 6
    go true h = let ns = (rest_at hs q).near in omega (arith, few_length 4 (fallen ns) (few_fallen 4 ns h))
    go false h = few_length 5 (rest_at hs q).near h
