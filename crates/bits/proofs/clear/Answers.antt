use mathlib.Core.Path.{◌≡◌, sym, ◌∙◌}
use native.Mathlib.Nat.{sub_self}
use native.Mathlib.Omega.{arith}
use Rattle.bits.specs.Bits.{bits_of, over}
use lib.ListN.{replicate}
use mathlib.Core.Bool.{false}
use Prim.Native.Nat.{◌+◌, ◌-◌}
use Rattle.bits.proofs.Bytes.{length_bits_of}
use Rattle.bits.proofs.Over.{over_nil}
use Rattle.bits.proofs.Filling.{clear_more}
use Rattle.bits.proofs.clear.Goals as goal
use Rattle.bits.proofs.clear.Goals.{After-put}

pub loop-i-init : goal.loop-i-init
loop-i-init c = (omega arith, rw (sub_self c.args.from) (sym (over_nil _ _)))

-- what a turn leaves
turned : (c : After-put) → bits_of c.put.new.out
    ≡ over c.args.from (replicate (c.loop-i.i + c.min-w.result - c.args.from) false) (bits_of c.args.out.now)
turned c =
    let a = c.args in
    let l = c.loop-i in
    c.put.ensures
    ∙ rw l.invariant.1
    (clear_more a.from l.i c.min-w.result (bits_of a.out.now) (omega arith) (omega (arith, length_bits_of a.out.now)))

pub loop-i-preserved : goal.loop-i-preserved
loop-i-preserved c =
    let w : c.min-w.result ≡ 56 = omega arith in
    (omega arith, rw w at (turned (goal.at.loop-i-preserved c).After-put))

pub returns-2 : goal.returns-2
returns-2 c =
    let e : c.loop-i.i + c.min-w.result ≡ c.args.to = omega arith in
    rw e at (turned (goal.at.returns-2 c).After-put)
