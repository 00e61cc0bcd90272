use native.Mathlib.Omega.{arith}
use Rattle.transport.proofs.ElementLaws.{run_none, run_code, length_sdu}
use mathlib.Core.Path.{sym}
use Rattle.bits.specs.Bits.{bits_of}
use lib.ListN.{take}
use Rattle.transport.proofs.elements.run.Goals as goal

pub returns-then-n-at : goal.returns-then-n-at
returns-then-n-at c =
    let a = c.args in
    let h = length_sdu a.n a.s.now (omega arith) in
    sym (run_none a.at a.w (take a.n (bits_of a.s.now)) (rw h (omega arith)))

pub returns : goal.returns
returns c =
    let m = c.least-m in
    let a = c.args in
    run_code a.at a.w m.result a.n c.get.result a.s.now (omega arith) (omega arith) (omega arith)
    m.ensures c.get.ensures
