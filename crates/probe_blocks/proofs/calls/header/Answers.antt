use Prim.Native.Nat.{◌+◌}
use native.Mathlib.Omega.{arith}
use Rattle.probe_blocks.proofs.Saying.{header_short, header_said}
use Rattle.probe_blocks.proofs.calls.header.Goals as goal

pub returns-then-body-lt2 : goal.returns-then-body-lt2
returns-then-body-lt2 c = let a = c.args in header_short a.line.now a.body.now (omega arith)

pub returns-then-body-end : goal.returns-then-body-end
returns-then-body-end c =
    let a = c.args in
    header_short a.line.now a.body.now
    (omega (arith, c.from-at.ensures, c.from.ensures))

pub returns : goal.returns
returns c =
    let a = c.args in
    let s = c.from-at in
    let h = c.from in
    header_said a.line.now a.body.now (2 + s.result) (2 + s.result + h.result) (omega (arith, s.ensures))
    (omega (arith, h.ensures)) (omega arith)
    c.read_header-h.ensures c.header.ensures
