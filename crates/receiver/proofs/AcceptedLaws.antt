-- Accepted reports, and the receiver that has heard a list of them. Assumes nothing.
use mathlib.Core.Path.{◌≡◌, refl, ap, ◌∙◌}
use mathlib.Core.Bool.{Bool, true, false, ◌||◌}
use mathlib.Core.List.{List}
use mathlib.Core.Option.{Option, none, some}
use mathlib.Core.Logic.{inl, inr}
use Prim.Native.Nat.{ℕ, ◌≤◌}
use native.Mathlib.Omega.{arith}
use lib.Dec.{eqb}
use lib.ListN.{length}
use borrow.Author.Tests.{eqb-true, ne_eqb}
use Rattle.store.proofs.Stores.{store_nothing}
use Rattle.history.specs.Line.{Line, start, ◌▸◌, Every}
use Rattle.history.specs.Step as step
use Rattle.history.specs.Step.{no_assembly, in_turn, is_over, after}
use Rattle.history.specs.declared.Place.{Place}
use Rattle.history.proofs.Verdicts.{rest_at}
use Rattle.history.proofs.Bounds.{Sized, Framed, Small, theorem_small, theorem_seven, theorem_free}
use Rattle.reports.specs.Lent.{Lent, Event, brought}
use Rattle.reports.specs.Nears.{fallen_when}
use Rattle.reports.specs.Turns.{follows}
use Rattle.reports.specs.declared.unit.Settings.{Settings}
use Rattle.reports.proofs.RuleLaws.{ReportHolds, report_holds, report_passes}
use Rattle.reports.proofs.ReadLaws.{sized}
use Rattle.receiver.specs.View.{place_of, empty_assembly, assembly_of}
use Rattle.receiver.specs.Reached.{reports, refused_with, Accepted, Reached, Canonical, closed, assembling, Listed}
use Rattle.receiver.specs.declared.Receiver.{Receiver}

-- a report that is not refused
pub passes : (l : Lent) (buffer : List ℕ) → refused_with l buffer ≡ 0
    → Accepted l × (brought l.kind (length l.blocks) ≡ true) × (512 ≤ length buffer)
passes l buffer e =
    let k = report_holds l.frame l.slot l.kind (length l.blocks) (length buffer) e in
    let a : ReportHolds l.frame l.slot l.kind (length l.blocks) 512 =
    record {
      first_frame = k.first_frame;
      last_frame = k.last_frame;
      slot = k.slot;
      kind = k.kind;
      buffer = omega arith;
    } in
    (report_passes l.frame l.slot l.kind (length l.blocks) 512 a, k.kind, k.buffer)

holding : (l : Lent) → Accepted l → ReportHolds l.frame l.slot l.kind (length l.blocks) 512
holding l a = report_holds l.frame l.slot l.kind (length l.blocks) 512 a

pub framed : (l : Lent) → Accepted l → Framed (record { frame = l.frame; slot = l.slot })
framed l a = let k = holding l a in (k.first_frame, k.last_frame)

slot_named : (a b : Bool) (slot : ℕ) → eqb slot 1 ≡ a → eqb slot 3 ≡ b → (a || b) ≡ true → 1 ≤ slot
slot_named true b slot e f o = omega (arith, eqb-true slot 1 e)
slot_named false true slot e f o = omega (arith, eqb-true slot 3 f)
slot_named false false slot e f o = let z : ◌≡◌ {A = ℕ} 0 1 = cc in absurd (omega arith)

named : (l : Lent) → Accepted l → 1 ≤ l.slot
named l a = slot_named (eqb l.slot 1) (eqb l.slot 3) l.slot refl refl (holding l a).slot

-- a place that was heard has a slot
abbrev pub Named : Option Place → Type 0
Named none = Unit {0}
Named (some p) = 1 ≤ p.slot

pub last_named : (s : Settings) (ls : Line Event) → Every Accepted ls → Named (after (reports s ls)).last
unfolding after step.step
last_named s start a = tt
last_named s (ls ▸ l) a = named l a.1

pub follows_is : (m : Option Place) (q : Place) → Named m → follows (place_of m) q ≡ in_turn m q
follows_is none q n = refl
follows_is (some p) q n = rw (ne_eqb p.slot 0 (omega arith)) refl

-- the room that there is in an assembly
pub all_sized : (s : Settings) (ls : Line Event) → Every Accepted ls
    → Every (λ r. Framed r.place × Sized r.heard) (reports s ls)
all_sized s start a = tt
all_sized s (ls ▸ l) a = (all_sized s ls a.0, (framed l a.1, sized s l))

pub small : (s : Settings) (ls : Line Event) → Every Accepted ls → Small (after (reports s ls)).assembly
small s ls a = theorem_small (reports s ls) (all_sized s ls a)

-- the earlier headers have their seven places, and one is free where a header is to be kept
pub few_near : (s : Settings) (ls : Line Event) → Every Accepted ls → length (after (reports s ls)).near ≤ 7
few_near s ls a = theorem_seven (reports s ls) (all_sized s ls a)

pub free_near : (s : Settings) (ls : Line Event) (q : Place) → Every Accepted ls
    → length (fallen_when (is_over q) (rest_at (reports s ls) q).near) ≤ 6
free_near s ls q a = theorem_free (reports s ls) q (all_sized s ls a)

-- an assembly that holds nothing
pub no_assembly_is : assembly_of no_assembly ≡ empty_assembly
no_assembly_is = rw store_nothing refl

pub canonical : {r : Receiver} → Reached r → Canonical r.assembly
canonical {r} k =
    let l = k.leads in
    let a = (after (reports k.settings k.heard)).assembly in
    let z = small k.settings k.heard l.accepted in
    rw l.there
    (elim z.held [
      | inl h ↦ assembling a.joined h.0 z.blocks z.slots refl (omega (arith, z.bits, z.blocks, z.slots))
          refl
      | inr e ↦ closed (ap assembly_of e ∙ no_assembly_is)
    ])

pub listed : {r : Receiver} → Reached r → Listed r.near
listed k =
    let l = k.leads in
    record {
      near = (after (reports k.settings k.heard)).near;
      few = few_near k.settings k.heard l.accepted;
      places = ap (λ (r : Receiver). r.near) l.there;
    }
