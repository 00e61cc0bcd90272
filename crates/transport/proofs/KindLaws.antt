-- The laws of the four kinds of message. Assumes nothing.
use mathlib.Core.Path.{◌≡◌, refl}
use Prim.Native.Nat.{ℕ, ◌≤◌}
use native.Mathlib.Omega.{arith}
use Rattle.transport.specs.Layouts.{per}
use Rattle.transport.specs.Kinds.{number, chosen}
use Rattle.transport.specs.declared.kinds.Kind.{Kind}
use Rattle.transport.specs.declared.kinds.Kind.TheVariants.{Transfer, Report, Ack, Short}

-- what stands here for a kind is what stands here for its number
pub chosen_is : (k : Kind) (a b c d : ℕ) → chosen k a b c d ≡ per (number k) a b c d
chosen_is Transfer a b c d = refl
chosen_is Report a b c d = refl
chosen_is Ack a b c d = refl
chosen_is Short a b c d = refl

-- their numbers are 1 to 4
pub one_of_four : (k : Kind) → (1 ≤ number k) × (number k ≤ 4)
one_of_four Transfer = (omega arith, omega arith)
one_of_four Report = (omega arith, omega arith)
one_of_four Ack = (omega arith, omega arith)
one_of_four Short = (omega arith, omega arith)
