use mathlib.Core.Path.{◌≡◌}
use mathlib.Core.Bool.{false}
use mathlib.Core.List.{List}
use lib.ListN.{take}
use Rattle.history.specs.Step.{copied}
use Rattle.history.specs.declared.Near.{Near}
use Rattle.reports.specs.Nears.{flat}
use Rattle.reports.proofs.near.copied.Given as goal

abbrev pub invariant-loop-i : goal.invariant-loop-i
invariant-loop-i l = (ps : List Near) → l.near.places ≡ flat ps → copied (take l.i ps) l.raw l.countdown ≡ false
