-- The line of a report. Assumes nothing.
use Prim.Native.Nat.{ℕ, ◌≤◌, ◌<◌}
use native.Mathlib.Omega.{arith}
use lib.ListN.{length}
use Rattle.text.specs.Text.{decimal_of}
use Rattle.text.proofs.Digits.{decimal_few}

-- a byte has three digits
pub byte_few : (n : ℕ) → n < 256 → length (decimal_of n) ≤ 3
byte_few n h = decimal_few 2 n (omega arith)
