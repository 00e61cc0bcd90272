-- A place as the receiver keeps it: slot 0 where no report has been heard.
use Rattle.std.specs.Prelude.{Bool, true, cond, eqb}
use Rattle.history.specs.Slots.{same_place, next}
use Rattle.history.specs.declared.Place.{Place}

-- A report follows it that is next in turn, or the first.
abbrev pub follows : Place → Place → Bool
follows p q = cond (eqb p.slot 0) true (same_place q (next p))
