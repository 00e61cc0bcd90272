use mathlib.Core.Path.{◌≡◌, ◌∙◌, sym}
use Prim.Native.Nat.{◌-◌}
use native.Mathlib.Omega.{arith}
use lib.Pow.{pow-lt}
use Rattle.bits.specs.Bits.{bits_of}
use Rattle.bits.specs.Fill.{fill_bits}
use Rattle.bits.proofs.Numbers.{ones_of}
use Rattle.bits.proofs.Bytes.{length_bits_of}
use Rattle.bits.proofs.Over.{over_nil}
use Rattle.bits.proofs.Filling.{fill_end}
use Rattle.bits.proofs.fill.Goals as goal

pub put-requires : goal.put-requires
put-requires c =
    let w = c.min-w.result in
    (omega arith, omega arith, rw (ones_of (w - 1) (omega arith)) (pow-lt {i = w - 1} {j = w} (omega arith)))

pub returns-then-from-to : goal.returns-then-from-to
returns-then-from-to c =
    let a = c.args in
    let w = c.min-w.result in
    c.clear.ensures
    ∙ rw (c.put.ensures, ones_of (w - 1) (omega arith))
    (fill_end a.from a.to w (w - 1) (bits_of a.out.now) (omega arith) (omega arith)
    (omega (arith, length_bits_of a.out.now)))

pub returns-else-from-to : goal.returns-else-from-to
unfolding fill_bits
returns-else-from-to c =
    let a = c.args in
    let e : a.to - a.from ≡ 0 = omega arith in
    rw e (sym (over_nil a.from (bits_of a.out.now)))
