-- Fill (EN 300 396-3, 8.5.5): the bits left over in a room are a 1 and 0s after it.
use Rattle.std.specs.Prelude.{Bool, true, false, List, [], ◌∷◌, ◌++◌, ℕ, zero, suc, ◌+◌, ◌-◌, length, replicate}
use Rattle.std.proofs.Math.Option.{Option, none, some}
use Rattle.std.specs.Prelude as rust
use Rattle.std.specs.Prelude.{Some, None}

-- The fill for n bits left: a 1 first, 0s after it; nothing where none is left.
unfoldable pub fill_bits : ℕ → List Bool
fill_bits zero = []
fill_bits (suc n) = true ∷ replicate n false

-- Adding fill: a message in a room of so many bits.
unfoldable pub filled : ℕ → List Bool → List Bool
filled room m = m ++ fill_bits (room - length m)

-- The first bit of a string, before what is left of the others.
unfoldable pub before : Bool → Option (List Bool) → Option (List Bool)
before b (some r) = some (b ∷ r)
before true none = some []
before false none = none

-- Deleting fill: what stands before the last 1; none where there is no 1.
unfoldable pub strip : List Bool → Option (List Bool)
strip [] = none
strip (b ∷ bs) = before b (strip bs)

-- Where the last 1 stands, for a string that starts at bit `from`.
unfoldable pub found_at : ℕ → Option (List Bool) → rust.Option ℕ
found_at from (some r) = Some (from + length r)
found_at from none = None
