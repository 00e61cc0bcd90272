-- What the rules of a report say of it where none is broken. Assumes nothing.
use mathlib.Core.Path.{◌≡◌, refl}
use mathlib.Core.Bool.{true}
use Prim.Native.Nat.{ℕ, ◌≤◌}
use borrow.Author.Tests.{le-leb}
use Rattle.blocks.specs.Faults.{first_of}
use Rattle.blocks.proofs.FaultLaws.{by_rules, holds, le_holds}
use Rattle.reports.specs.Lent.{heard_slot, brought, report_rules}

pub record ReportHolds (at place sort bytes room : ℕ) : Type 0 where
  pub first_frame : 1 ≤ at
  pub last_frame : at ≤ 18
  pub slot : heard_slot place ≡ true
  pub kind : brought sort bytes ≡ true
  pub buffer : 512 ≤ room

module _ (frame slot kind lent buffer : ℕ) where
  pub report_holds : first_of (report_rules frame slot kind lent buffer) ≡ 0 → ReportHolds frame slot kind lent buffer
  report_holds e =
      by_rules (report_rules frame slot kind lent buffer) e (λ first last named bytes room.
      record {
        first_frame = le_holds 1 frame 14 first;
        last_frame = le_holds frame 18 14 last;
        slot = holds (heard_slot slot) 15 named;
        kind = holds (brought kind lent) 0 bytes;
        buffer = le_holds 512 buffer 16 room;
      })

  -- and the other way round
  pub report_passes : ReportHolds frame slot kind lent buffer → first_of (report_rules frame slot kind lent buffer) ≡ 0
  report_passes k =
      rw (
        le-leb 1 frame k.first_frame,
        le-leb frame 18 k.last_frame,
        k.slot,
        k.kind,
        le-leb 512 buffer k.buffer,
      ) refl
