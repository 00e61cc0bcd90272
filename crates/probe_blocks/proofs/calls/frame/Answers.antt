use native.Mathlib.Omega.{arith}
use Rattle.probe_blocks.proofs.Saying.{frame_short, frame_said}
use Rattle.probe_blocks.proofs.calls.frame.Goals as goal

pub returns-in_default : goal.returns-in_default
returns-in_default c = let a = c.args in frame_short a.line.now a.body.now (omega arith)

pub returns : goal.returns
returns c =
    let a = c.args in
    frame_said a.line.now a.body.now (omega arith) c.due_frame-d.ensures
    c.frame.ensures
