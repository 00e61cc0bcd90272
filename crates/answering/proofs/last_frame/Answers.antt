use Prim.Native.Nat.{◌-◌}
use native.Mathlib.Omega.{arith}
use Rattle.answering.proofs.FrameLaws.{frames_few}
use Rattle.answering.proofs.last_frame.Goals as goal

pub overflow_cast-result : goal.overflow_cast-result
overflow_cast-result c =
    let r = c.args.r in
    let k = c.requires.fits in
    let n = k.count in
    omega (arith, c.frames_to.ensures, frames_few r.frame r.countdown (r.count - 1) k.countdown (omega arith))
