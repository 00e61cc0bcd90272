-- Runs of bits, joined in order.
use Rattle.std.specs.Prelude.{Bool, List, [], ◌∷◌, ◌++◌}

-- The bits of the runs, one run after another.
abbrev pub joined : List (List Bool) → List Bool
joined [] = []
joined (r ∷ rs) = r ++ joined rs
