-- The blocks that are still to come go where they would have gone, and nothing else changes.
use mathlib.Core.Path.{◌≡◌}
use Prim.Native.Nat.{◌+◌, ◌-◌, ◌*◌, ◌≤◌}
use lib.ListN.{length, take, drop}
use Rattle.bits.specs.Bits.{bits_of, over}
use Rattle.build.specs.Build.{continuation_blocks}
use Rattle.build.proofs.put_blocks.Given as goal

abbrev pub invariant-loop-i : goal.invariant-loop-i
invariant-loop-i l = record {
  inside : l.from ≤ l.n;
  kept : length l.out ≡ length l.initial.out;
  blocks : over (192 + 272 * l.i) (continuation_blocks (l.blocks - l.i) (drop l.from (take l.n (bits_of l.message))))
      (bits_of l.out)
      ≡ over 192 (continuation_blocks l.blocks (drop l.inside (take l.n (bits_of l.message)))) (bits_of l.initial.out);
}
