use mathlib.Core.Path.{◌≡◌, ap, ◌∙◌}
use mathlib.Core.List.{List}
use Prim.Native.Nat.{ℕ, ◌≤◌}
use lib.ListN.{take}
use native.Mathlib.Omega.{arith}
use Rattle.slotlog.specs.Log.{begun_by}
use Rattle.slotlog.specs.Room.{moved_up}
use Rattle.slotlog.proofs.LogLaws.{took_begun}
use Rattle.slotlog.proofs.RoomLaws.{in_use, moved_up_lem}
use Rattle.slotlog.proofs.log.Begun.part.Goals as goal

pub returns-clause-begun : goal.returns-clause-begun
returns-clause-begun c =
    let u = in_use c.args.have c.min-n.result c.args.room.now c.min-n.ensures in
    rw (← u.0) c.begin-begun.ensures.begun

pub returns-clause-moved : goal.returns-clause-moved
returns-clause-moved c =
    let a = c.args in
    let l = c.min-n in
    let k = c.first_bytes-took.result in
    let u = in_use a.have l.result a.room.now l.ensures in
    let b : k ≡ (begun_by (take l.result a.room.now)).took =
    took_begun (begun_by (take l.result a.room.now)) k (rw c.begin-begun.ensures.begun at c.first_bytes-took.ensures) in
    let h : k ≤ l.result = grind (arith, u.3) in
    moved_up_lem a.room.now a.have k l.result l.ensures h c.to_start.ensures
    ∙ ap (λ (i : ℕ). moved_up a.have i a.room.now) (b ∙ ap (λ (w : List ℕ). (begun_by w).took) u.0)
