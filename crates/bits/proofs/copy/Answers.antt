use mathlib.Core.Path.{◌≡◌, sym, ◌∙◌}
use native.Mathlib.Omega.{arith}
use Rattle.bits.specs.Bits.{bits_of, over}
use lib.ListN.{take, drop}
use Prim.Native.Nat.{◌+◌}
use Rattle.bits.proofs.Bytes.{length_bits_of}
use Rattle.bits.proofs.Over.{over_nil, copy_more}
use Rattle.bits.proofs.copy.Goals as goal
use Rattle.bits.proofs.copy.Goals.{After-put}

pub loop-i-init : goal.loop-i-init
loop-i-init c = (omega arith, sym (over_nil _ _))

-- what a turn leaves
turned : (c : After-put) → bits_of c.put.new.out
    ≡ over c.args.to (take (c.loop-i.i + c.min-w.result) (drop c.args.from (bits_of c.args.src.now)))
    (bits_of c.args.dst.now)
turned c =
    let a = c.args in
    let l = c.loop-i in
    c.put.ensures
    ∙ rw (c.field.ensures.is, l.invariant.1)
    (copy_more (bits_of a.src.now) (bits_of a.dst.now) a.from a.to l.i c.min-w.result
    (omega (arith, length_bits_of a.src.now)) (omega (arith, length_bits_of a.dst.now)))

pub loop-i-preserved : goal.loop-i-preserved
loop-i-preserved c =
    let w : c.min-w.result ≡ 56 = omega arith in
    (omega arith, rw w at (turned (goal.at.loop-i-preserved c).After-put))

pub returns-2 : goal.returns-2
returns-2 c =
    let e : c.loop-i.i + c.min-w.result ≡ c.args.n = omega arith in
    rw e at (turned (goal.at.returns-2 c).After-put)
