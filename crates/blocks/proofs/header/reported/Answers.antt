use Prim.Native.Nat.{◌^◌, ◌<◌}
use native.Mathlib.Omega.{arith}
use lib.ListN.{drop}
use Rattle.bits.specs.Bits.{bits_of}
use Rattle.bits.proofs.Numbers.{num_take_lt}
use Rattle.bits.proofs.Tests.{tests}
use Rattle.blocks.specs.Sync.{sync_of}
use Rattle.blocks.proofs.ReadLaws.{place_alone}
use Rattle.blocks.proofs.header.reported.Goals as goal
use Rattle.blocks.proofs.header.reported.Goals.{
  then-x-frame-via-then-x-frame,
  then-x-frame-via-else-x-frame+then-x-slot,
}

pub overflow_add-x : goal.overflow_add-x
unfolding sync_of
overflow_add-x c =
    let x = c.in_ok-x in
    let l : x.x.sync.slot < 2 ^ 2 = rw x.ensures.sync (num_take_lt 2 (drop 12 (bits_of c.args.s.now))) in
    omega arith

pub returns-then-x-frame-clause-faults : goal.returns-then-x-frame-clause-faults
returns-then-x-frame-clause-faults c =
    let a = c.args in
    let x = c.in_ok-x in
    rw (← place_alone a.s.now a.h.now a.frame a.slot x.x.sync x.ensures.faults x.ensures.sync)
    (elim c.then-x-frame.branch [
      | then-x-frame-via-then-x-frame w ↦ search tests
      | then-x-frame-via-else-x-frame+then-x-slot w ↦ search tests
    ])

pub returns-clause-faults : goal.returns-clause-faults
returns-clause-faults c =
    let a = c.args in
    let x = c.in_ok-x in
    rw (← place_alone a.s.now a.h.now a.frame a.slot x.x.sync x.ensures.faults x.ensures.sync) (search tests)
