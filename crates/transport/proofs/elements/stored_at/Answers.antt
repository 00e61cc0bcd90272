use native.Mathlib.Omega.{arith}
use Rattle.bits.proofs.Tests.{tests}
use Rattle.transport.specs.Runs.{stored_at}
use Rattle.transport.proofs.ElementLaws.{forward_le_of, stored_code}
use Rattle.bits.specs.Bits.{bits_of}
use lib.ListN.{take}
use Rattle.transport.proofs.elements.stored_at.Goals as goal

pub returns-then-storage-eq0 : goal.returns-then-storage-eq0
unfolding stored_at
returns-then-storage-eq0 c = (search tests, omega arith)

pub overflow_sub-w : goal.overflow_sub-w
overflow_sub-w c =
    let l = forward_le_of c.part-forward.result c.forward_width-w.ensures in
    omega arith

pub part-requires : goal.part-requires
part-requires c =
    let l = forward_le_of c.part-forward.result c.forward_width-w.ensures in
    omega arith

pub overflow_add-result-3 : goal.overflow_add-result-3
overflow_add-result-3 c =
    let l = forward_le_of c.part-forward.result c.forward_width-w.ensures in
    omega arith

pub returns : goal.returns
returns c =
    let a = c.args in
    let l = forward_le_of c.part-forward.result c.forward_width-w.ensures in
    let eq =
    stored_code a.at a.storage (take a.n (bits_of a.s.now)) c.if-storage-eq0.false c.run-x.ensures
    c.part-forward.ensures c.forward_width-w.ensures c.part.ensures c.part-2.ensures in
    (eq, omega arith)
