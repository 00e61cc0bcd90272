use mathlib.Core.Path.{◌≡◌}
use Prim.Native.Nat.{◌≤◌}
use lib.ListN.{take, drop}
use Rattle.bits.specs.Bits.{bits_of, over}
use Rattle.bits.proofs.copy.Given as goal

abbrev pub invariant-loop-i : goal.invariant-loop-i
invariant-loop-i l =
    (l.i ≤ l.n)
    × (bits_of l.dst ≡ over l.to (take l.i (drop l.from (bits_of l.src))) (bits_of l.initial.dst))
