-- What is known of parts that were measured.
use Rattle.std.specs.Prelude.{◌≡◌, List, ℕ, ◌*◌, ◌≤◌, length, Option, Some, None}
use Rattle.bits.specs.Layout.{parts_with, total, AllFit, AllNarrow}

-- Parts of n bits together that `put_all` takes.
pub record Whole (ws vs : List ℕ) (n : ℕ) : Type 0 where
  pub narrow : AllNarrow ws
  pub fit : AllFit (parts_with ws vs)
  pub size : n ≡ total (parts_with ws vs)
  pub few : n ≤ 56 * length ws

-- A size is that of parts that `put_all` takes.
abbrev pub Measured : List ℕ → List ℕ → Option ℕ → Type 0
Measured ws vs (Some n) = Whole ws vs n
Measured ws vs None = Unit {0}
