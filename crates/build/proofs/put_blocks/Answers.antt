use mathlib.Core.Path.{◌≡◌, sym, ◌∙◌}
use Prim.Native.Nat.{◌+◌, ◌-◌, ◌*◌}
use native.Mathlib.Omega.{arith}
use Rattle.bits.specs.Bits.{bits_of}
use Rattle.bits.proofs.Bytes.{length_bits_of}
use Rattle.bits.proofs.Over.{over_nil}
use Rattle.build.proofs.BuildLaws.{placed_turn}
use Rattle.build.proofs.put_blocks.Goals as goal

pub loop-i-preserved : goal.loop-i-preserved
loop-i-preserved c =
    let a = c.args in
    let l = c.loop-i in
    let b = bits_of a.message.now in
    let lb = length_bits_of a.message.now in
    let lo = length_bits_of l.out in record {
      inside = omega arith;
      kept = omega arith;
      blocks =
          placed_turn b a.n l.from c.least-count.result l.i c.from-blocks.result c.loop-i-test.true
          c.least-count.ensures l.invariant.inside (omega arith) (bits_of l.out) (bits_of c.put_block.new.out)
          (omega arith) c.put_block.ensures
          ∙ l.invariant.blocks;
    }

pub returns : goal.returns
returns c =
    let l = c.loop-i in
    let z : c.from-blocks.result - l.i ≡ 0 = omega arith in
    sym (over_nil (192 + 272 * l.i) (bits_of l.out)) ∙ rw (z, c.from-blocks.ensures) at l.invariant.blocks
