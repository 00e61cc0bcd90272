use mathlib.Core.Path.{◌≡◌}
use Prim.Native.Nat.{◌+◌, ◌*◌, ◌≤◌}
use lib.ListN.{length, take}
use Rattle.text.specs.Text.{Wrote, hex_of}
use Rattle.text.proofs.hex.Given as goal

abbrev pub invariant-loop-b : goal.invariant-loop-b
invariant-loop-b l =
    (l.b-index ≤ length l.s) × (l.next ≡ l.at + 2 * l.b-index)
    × Wrote l.initial.out l.at (hex_of (take l.b-index l.s)) l.out l.next
    × (length l.out ≡ length l.initial.out)
