-- The laws of lines. Assumes nothing.
use mathlib.Core.Path.{◌≡◌}
use mathlib.Core.List.{List, [], ◌∷◌, ◌++◌}
use mathlib.Core.Option.{Option, none, some}
use Prim.Native.Nat.{ℕ, ◌+◌, ◌≤◌, ◌<◌}
use native.Mathlib.Omega.{arith}
use lib.ListN.{length, set, length-set}
use Rattle.text.specs.Text.{Wrote, spaced}
use Rattle.text.proofs.Writing.{wrote_more, wrote_both}
use Rattle.lines.specs.Lines.{IsPrefixLen, start_of, Held, Stands, Says}
use Rattle.lines.specs.declared.input.Taken.{Taken}
use Rattle.lines.specs.declared.input.Taken.TheVariants.{Record}
use Rattle.std.specs.declared.option.Option as answer
use Rattle.std.specs.declared.option.Option.TheVariants.{Some}

-- a word and the numbers after it
pub wrote_start : (old word ns : List ℕ) {mid new : List ℕ} {at end : ℕ} → Wrote old 0 word mid at
    → Wrote mid at (spaced ns) new end → at ≤ length old → Wrote old 0 (start_of word ns) new end
unfolding start_of
wrote_start old word ns u v h = wrote_both old 0 word (spaced ns) u v h

-- what was written at a buffer's start, and a line end after it
pub ended : (old run : List ℕ) {new : List ℕ} {end : ℕ} → Wrote old 0 run new end → length new ≡ length old
    → end < length old → Stands old (run ++ (10 ∷ [])) (set new end 10) (end + 1)
ended old run w e h = record { wrote = wrote_more old 0 run 10 w h; fits = simp length-set (omega arith) }

-- a line that was written fits its buffer
pub line_fits : (old : List ℕ) (line : Option (List ℕ)) (new : List ℕ) {r : answer.Option ℕ} {n : ℕ} → r ≡ Some n
    → Says old line new r → n ≤ length new
line_fits old none new e s = absurd (rw e at s)
line_fits old (some l) new e s = (rw e at s).fits

-- and a record's body does
pub body_held : (body : List ℕ) {r : Taken} {kind n : ℕ} → r ≡ Record kind n → Held r body → IsPrefixLen n body
body_held body e h = rw e at h
