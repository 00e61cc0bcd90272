use mathlib.Core.Path.{◌≡◌}
use Prim.Native.Nat.{◌+◌, ◌*◌, ◌≤◌}
use lib.ListN.{length, take}
use Rattle.text.specs.Text.{Wrote, spaced}
use Rattle.text.proofs.numbers.Given as goal

abbrev pub invariant-loop-n : goal.invariant-loop-n
invariant-loop-n l =
    (l.n-index ≤ length l.ns) × (l.next ≤ l.at + 21 * l.n-index)
    × Wrote l.initial.out l.at (spaced (take l.n-index l.ns)) l.out l.next
    × (length l.out ≡ length l.initial.out)
