use native.Mathlib.Omega.{arith}
use Rattle.slotlog.proofs.RunLaws.{replies_inside}
use Rattle.slotlog.proofs.run.Run.one.Goals as goal

pub overflow_add-result : goal.overflow_add-result
overflow_add-result c =
    let p = c.requires in
    omega (arith, p.read, replies_inside p.reached c.next-x.ensures)
