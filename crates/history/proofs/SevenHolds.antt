-- Six places are not enough. Assumes nothing.
use Prim.Native.Nat.{ℕ, zero, suc, ◌<◌}
use native.Mathlib.Omega.{arith}
use mathlib.Core.Path.{◌≡◌, refl}
use Rattle.history.specs.Step.{copy, step, answer, after, outcome_at}
use Rattle.history.specs.Seven.{seven, heard_in, SevenAreNeeded}

copies : (i : ℕ) → i < 7 → outcome_at seven (heard_in 4 3 i 0) ≡ copy
unfolding after step answer
copies zero l = refl
copies (suc zero) l = refl
copies (suc (suc zero)) l = refl
copies (suc (suc (suc zero))) l = refl
copies (suc (suc (suc (suc zero)))) l = refl
copies (suc (suc (suc (suc (suc zero))))) l = refl
copies (suc (suc (suc (suc (suc (suc zero)))))) l = refl
copies (suc (suc (suc (suc (suc (suc (suc i))))))) l = absurd (omega arith)

pub seven_are_needed : SevenAreNeeded
unfolding after step answer
seven_are_needed = record { copies = copies; other = refl }
