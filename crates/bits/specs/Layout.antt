-- A layout: parts side by side, each a width and a value. A format is one such list; packing and reading back are its
-- two readings.
use Rattle.std.specs.Prelude.{Bool, List, [], ◌∷◌, ◌++◌, ℕ, zero, suc, ◌+◌, ◌^◌, ◌<◌, ◌≤◌, get_or}
use Rattle.bits.specs.Bits.{bits_n, field}

pub record Part : Type 0 where
  pub width : ℕ
  pub value : ℕ

abbrev pub part : ℕ → ℕ → Part
part w v = record { width = w; value = v }

-- The bits of the parts, in order.
abbrev pub pack : List Part → List Bool
pack [] = []
pack (p ∷ ps) = bits_n p.width p.value ++ pack ps

abbrev pub total : List Part → ℕ
total [] = 0
total (p ∷ ps) = p.width + total ps

abbrev pub widths : List Part → List ℕ
widths [] = []
widths (p ∷ ps) = p.width ∷ widths ps

abbrev pub values : List Part → List ℕ
values [] = []
values (p ∷ ps) = p.value ∷ values ps

-- A list of widths and one of values, side by side.
abbrev pub parts_with : List ℕ → List ℕ → List Part
parts_with [] vs = []
parts_with (w ∷ ws) [] = []
parts_with (w ∷ ws) (v ∷ vs) = part w v ∷ parts_with ws vs

-- The parts of these widths as they stand in b, from bit `at` on.
abbrev pub parts_in : ℕ → List ℕ → List Bool → List Part
parts_in at [] b = []
parts_in at (w ∷ ws) b = part w (field at w b) ∷ parts_in (at + w) ws b

-- Where part k starts, for parts of these widths from bit `at` on; past the last one, where they end.
abbrev pub place_in : ℕ → List ℕ → ℕ → ℕ
place_in at [] k = at
place_in at (w ∷ ws) zero = at
place_in at (w ∷ ws) (suc k) = place_in (at + w) ws k

-- The value of part k as it stands in b, for parts from bit `at` on.
abbrev pub element_from : ℕ → List ℕ → ℕ → List Bool → ℕ
element_from at ws k b = field (place_in at ws k) (get_or ws k 0) b

-- The same, from the first bit on.
abbrev pub element : List ℕ → ℕ → List Bool → ℕ
element ws k b = element_from 0 ws k b

-- Each value fits its width.
abbrev pub AllFit : List Part → Type 0
AllFit [] = Unit {0}
AllFit (p ∷ ps) = (p.value < 2 ^ p.width) × AllFit ps

-- No width is above the 56 bits that one `put` takes.
abbrev pub AllNarrow : List ℕ → Type 0
AllNarrow [] = Unit {0}
AllNarrow (w ∷ ws) = (w ≤ 56) × AllNarrow ws
