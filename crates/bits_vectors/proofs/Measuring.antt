-- Parts measured one by one. Assumes nothing.
use mathlib.Core.Path.{◌≡◌}
use mathlib.Core.List.{List}
use Prim.Native.Nat.{ℕ, ◌+◌, ◌*◌, ◌≤◌}
use lib.ListN.{length}
use Rattle.std.specs.Prelude.{Option, Some}
use Rattle.bits_vectors.specs.Measure.{Whole, Measured}

-- so many bits were measured, and these parts are left
pub record Measuring (ws vs left_ws left_vs : List ℕ) (sum : ℕ) : Type 0 where
  pub paired : length left_ws ≡ length left_vs
  pub few : sum + 56 * length left_ws ≤ 56 * length ws
  pub whole : (n : ℕ) → Whole left_ws left_vs n → Whole ws vs (sum + n)

-- a size that was answered is one of parts that `put_all` takes
pub sized : (ws vs : List ℕ) {r : Option ℕ} {n : ℕ} → r ≡ Some n → Measured ws vs r → Whole ws vs n
sized ws vs e m = rw e at m
