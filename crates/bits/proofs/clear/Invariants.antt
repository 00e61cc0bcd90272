use mathlib.Core.Path.{◌≡◌}
use mathlib.Core.Bool.{false}
use Prim.Native.Nat.{◌-◌, ◌≤◌}
use lib.ListN.{replicate}
use Rattle.bits.specs.Bits.{bits_of, over}
use Rattle.bits.proofs.clear.Given as goal

abbrev pub invariant-loop-i : goal.invariant-loop-i
invariant-loop-i l =
    (l.i ≤ l.to) × (bits_of l.out ≡ over l.from (replicate (l.i - l.from) false) (bits_of l.initial.out))
