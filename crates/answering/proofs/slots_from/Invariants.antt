-- Before each turn the slots up to the header in turn are filled, and no others.
use mathlib.Core.Path.{◌≡◌}
use Prim.Native.Nat.{◌*◌, ◌-◌, ◌≤◌}
use lib.ListN.{drop}
use Rattle.answering.specs.Calendar.{headers}
use Rattle.answering.proofs.FillingLaws.{filled_to}
use Rattle.answering.proofs.slots_from.Given as goal

abbrev pub invariant-loop-i : goal.invariant-loop-i
invariant-loop-i l =
    (l.slots ≡ filled_to (l.i - l.over) (drop l.over (headers l.x l.k l.m))) × (l.i ≤ 2 * l.m)
