use mathlib.Core.Path.{◌≡◌}
use mathlib.Core.Option.{none}
use Prim.Native.Nat.{◌-◌, ◌*◌, ◌≤◌}
use lib.Seq.{slice}
use Rattle.bits.specs.Bits.{bits_of}
use Rattle.bits.specs.Fill.{strip}
use Rattle.bits.proofs.+last_one.Given as goal

abbrev pub decreases-last_one : goal.decreases-last_one
decreases-last_one l = l.from

abbrev pub invariant-loop-i : goal.invariant-loop-i
invariant-loop-i l =
    (l.first ≤ l.i) × (l.after ≡ 8 * l.i - l.to)
    × (strip (slice (8 * l.i - l.after) l.to (bits_of l.s)) ≡ none)
