-- What was read so far stands at the start of the run, and the rest of it is still to be read.
use Rattle.std.proofs.Common.{◌≡◌, ◌≤◌, ◌-◌, length, take}
use Rattle.std.specs.Io.KnownBytes.{Consumes}
use Rattle.lines.proofs.input.read_full.Given as goal

abbrev pub invariant-loop-done : goal.invariant-loop-done
invariant-loop-done g l =
    (length l.run ≡ length l.initial.run) × (l.done ≤ length l.run)
    × Consumes (g.R.Read.remaining l.initial.input) (g.R.Read.remaining l.input) (take l.done l.run)

abbrev pub decreases-loop-done : goal.decreases-loop-done
decreases-loop-done g l = length l.run - l.done
