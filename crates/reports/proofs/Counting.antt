-- A test that fails on its right side. Assumes nothing.
use mathlib.Core.Path.{◌≡◌, refl}
use mathlib.Core.Bool.{Bool, true, false, ◌&&◌}

pub and_false : (b : Bool) → (b && false) ≡ false
and_false true = refl
and_false false = refl
