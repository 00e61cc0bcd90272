-- Every cut of a message can be reported in the slots of its layout, and no such report is refused. Assumes nothing.
use mathlib.Core.Path.{◌≡◌, refl, sym, ap, ap₂, subst, ◌∙◌}
use mathlib.Core.Logic.{◌↔◌, ◌⊎◌, ⊎_elim}
use mathlib.Core.Bool.{Bool, true, false, cond}
use mathlib.Core.List.{List, []}
use Prim.Native.Nat.{ℕ, zero, suc, ◌+◌, ◌-◌, ◌≤◌, ◌<◌}
use native.Mathlib.Omega.{arith}
use lib.Dec.{eqb}
use lib.ListN.{length, length-append}
use borrow.Author.Tests.{le-leb}
use Rattle.bits.proofs.Bytes.{length_bytes_n}
use Rattle.build.specs.Build.{continuation_block}
use Rattle.history.specs.Line.{Line, start, ◌▸◌, count, each, Every}
use Rattle.history.specs.Slots.{same_place, next, due, Heard, is_fragmented}
use Rattle.history.specs.History.{final, InTurn, dues, NotFragmented}
use Rattle.history.specs.Lasts.{slots_on, slots_to}
use Rattle.history.specs.declared.Place.{Place}
use Rattle.history.proofs.Turns.{slot_after}
use Rattle.history.proofs.OpenRun.{same_place_true, same_place_is, count_each}
use Rattle.history.proofs.Outcomes.{untrue}
use Rattle.history.proofs.LastsHolds.{framed_on, final_on, to_come_lem, due_next}
use Rattle.reports.specs.Lent.{Lent, Event, lent, brought, heard_slot, heard}
use Rattle.reports.specs.declared.unit.Settings.{Settings}
use Rattle.receiver.specs.Reached.{report_of, reports, Accepted}
use Rattle.demands.specs.Demand2.{Call, InRange}
use Rattle.demands.specs.Req12.{Cut, header_bytes, header_slot, header_lent, block_lent, frag_heard, BringsCut}
use Rattle.demands.proofs.CutLaws.{part_heard, sch_s_lem, sch_h_lem, length_s, length_h}

-- ---- Reports that are not refused.

pub accept : (l : Lent) → 1 ≤ l.frame → l.frame ≤ 18 → heard_slot l.slot ≡ true
    → brought l.kind (length l.blocks) ≡ true → Accepted l
accept l a b c d = rw (le-leb 1 l.frame a, le-leb l.frame 18 b, c, d) refl

-- The slot that comes next is 1 or 3, and so is that of a header with slot number 0 or 2.
slot_heard : (y : ℕ) (b : Bool) → heard_slot (slot_after b y).slot ≡ true
slot_heard y true = refl
slot_heard y false = refl

pub next_heard : (p q : Place) → q ≡ next p → heard_slot q.slot ≡ true
next_heard p q e = ap (λ (z : Place). heard_slot z.slot) e ∙ slot_heard p.frame (eqb p.slot 1)

pub named_heard : (slot : ℕ) → (slot ≡ 0) ⊎ (slot ≡ 2) → heard_slot (slot + 1) ≡ true
named_heard slot = ⊎_elim (λ (e : slot ≡ 0). rw e refl) (λ (e : slot ≡ 2). rw e refl)

-- ---- The reports of a cut, slot by slot.

module _ (s : Settings) (c : Call) (r : InRange c) where
  abbrev p : Place
  p = header_slot c

  abbrev to : ℕ → ℕ
  to i = slots_to p c.countdown i

  -- Reports after the header's that bring these blocks.
  record Laid (ls : Line Event) (bs : Line (List Bool)) : Type 0 where
    turns : InTurn p (reports s ls)
    latest : Every (λ l. NotFragmented (heard s l)) ls
    held : dues p.frame c.countdown (reports s ls) ≡ each frag_heard bs
    accepted : Every Accepted ls

  module _ {ls : Line Event} {bs : Line (List Bool)} (a : Laid ls bs) where
    abbrev n : ℕ
    n = count (reports s ls)

    -- The slot next in turn.
    abbrev q : Place
    q = slots_on (suc n) p

    next_is : q ≡ next (final p (reports s ls))
    next_is = ap next (sym (final_on p (reports s ls) a.turns))

    kept : count (dues p.frame c.countdown (reports s ls)) ≡ count bs
    kept = ap count a.held ∙ count_each frag_heard bs

    is_due : (q ≡ due p.frame c.countdown (count bs)) ↔ (suc n ≡ to (count bs))
    is_due =
        subst (λ (d : ℕ). (q ≡ due p.frame c.countdown d) ↔ (suc n ≡ to d)) kept
        (due_next p c.countdown r.frame r.countdown (reports s ls) a.turns)

    still_to_come : n < to (count bs)
    still_to_come =
        subst (λ (d : ℕ). n < to d) kept
        (to_come_lem p c.countdown r.frame r.countdown (reports s ls) a.turns)

    -- One report more, in that slot: in the due slot, or not.
    more_held : (l : Lent) → (report_of s l).place ≡ q → (b : Bool)
        → same_place q (due p.frame c.countdown (count bs)) ≡ b
        → dues p.frame c.countdown (reports s (ls ▸ l))
        ≡ cond b (each frag_heard bs ▸ heard s l) (each frag_heard bs)
    more_held l e b h =
        ap₂ (λ (t : Bool) (y : Line Heard). cond t (y ▸ heard s l) y)
        (ap₂ (λ (z : Place) (i : ℕ). same_place z (due p.frame c.countdown i)) e kept ∙ h)
        a.held

    passes : (l : Lent) → (report_of s l).place ≡ q → brought l.kind (length l.blocks) ≡ true → Accepted l
    passes l e b =
        let (g, h) = framed_on (suc n) p r.frame in
        accept l (rw (ap (λ (z : Place). z.frame) e) g) (rw (ap (λ (z : Place). z.frame) e) h)
        (next_heard (final p (reports s ls)) (report_of s l).place (e ∙ next_is)) b

    abbrev silent : Lent
    silent = lent q.frame q.slot 1 []

    silence : (suc n ≡ to (count bs) → ⊥) → Laid (ls ▸ silent) bs
    unfolding heard
    silence e =
        let d = due p.frame c.countdown (count bs) in
        record {
          turns = (a.turns, next_is);
          latest = (a.latest, refl);
          held =
              more_held silent refl false (untrue (same_place q d) (λ z. e (is_due.0 (same_place_true q d z))));
          accepted = (a.accepted, passes silent refl refl);
        }

    block : (b : List Bool) → length b ≤ 264 → suc n ≡ to (count bs) → Laid (ls ▸ block_lent 0 b q) (bs ▸ b)
    unfolding heard
    block b l e =
        record {
          turns = (a.turns, next_is);
          latest = (a.latest, ap is_fragmented (part_heard 0 b (omega arith) l));
          held =
              more_held (block_lent 0 b q) refl true
              (same_place_is q (due p.frame c.countdown (count bs)) (is_due.1 e));
          accepted = (
            a.accepted,
            passes (block_lent 0 b q) refl (ap (brought 3) (length_bytes_n 34
                (continuation_block 0 b))),
          );
        }

  -- Nothing in m slots, and then the slot of the next block.
  abbrev ToBlock : Line (List Bool) → Type 0
  ToBlock bs = (ls : Line Event) × Laid ls bs × (suc (count (reports s ls)) ≡ to (count bs))

  after_silence : (m : ℕ) (ls : Line Event) (bs : Line (List Bool)) → Laid ls bs
      → suc (count (reports s ls)) + m ≡ to (count bs) → ToBlock bs
  after_silence zero ls bs a e = (ls, a, omega arith)
  after_silence (suc m) ls bs a e =
      after_silence m (ls ▸ silent a) bs (silence a (λ z. omega arith)) (omega arith)

  to_block : (bs : Line (List Bool)) → (ls : Line Event) × Laid ls bs → ToBlock bs
  to_block bs (ls, a) =
      let l = still_to_come a in
      after_silence (to (count bs) - suc (count (reports s ls))) ls bs a (omega arith)

  laid : (bs : Line (List Bool)) → Every (λ b. length b ≤ 264) bs → (ls : Line Event) × Laid ls bs
  laid start e = (start, record { turns = tt; latest = tt; held = refl; accepted = tt })
  laid (bs ▸ b) e =
      let (ls, a, g) = to_block bs (laid bs e.0) in
      (ls ▸ block_lent 0 b (q a), block a b e.1 g)

  pub all_brought : (c.sync.slot ≡ 0) ⊎ (c.sync.slot ≡ 2) → (x : Cut c)
      → (since : Line Event) × (l : Lent) × BringsCut s c x since l × Accepted (header_lent c x)
      × Every Accepted (since ▸ l)
      × (suc (count since) ≡ slots_to (header_slot c) c.countdown (count x.blocks))
  all_brought h x =
      let (ls, a, g) = to_block x.blocks (laid x.blocks x.fit.0) in
      let d = due p.frame c.countdown (count x.blocks) in
      let e = (is_due a).1 g in
      let l = block_lent 1 x.last d in
      let n : length (header_bytes c x) ≡ 24 = length-append (sch_s_lem c r x) (sch_h_lem c r x)
      ∙ omega (arith, length_s c r x, length_h c r x) in (
        ls,
        l,
        record {
          turns = (a.turns, sym e ∙ next_is a);
          latest = a.latest;
          held = a.held;
          at_last = refl;
        },
        accept (header_lent c x) r.frame.0 r.frame.1 (named_heard c.sync.slot h)
            (ap (brought 2) n),
        (a.accepted, passes a l (sym e) (ap (brought 3) (length_bytes_n 34 (continuation_block 1 x.last)))),
        ap suc (sym (count_each (report_of s) ls)) ∙ g,
      )
