use mathlib.Core.Path.{◌≡◌}
use mathlib.Core.List.{List}
use Prim.Native.Nat.{◌≤◌}
use Rattle.history.specs.declared.Near.{Near}
use Rattle.reports.specs.Nears.{flat}
use Rattle.reports.proofs.NearLaws.{Turn}
use Rattle.reports.proofs.near.fall.Given as goal

abbrev pub invariant-loop-i : goal.invariant-loop-i
invariant-loop-i l =
    (l.k ≤ l.i) × (l.near.count ≡ l.initial.near.count)
    × ((ps : List Near) → l.initial.near.places ≡ flat ps → Turn ps l.i l.k l.near.places)
