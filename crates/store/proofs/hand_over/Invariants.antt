use mathlib.Core.Path.{◌≡◌}
use lib.Seq.{paste}
use Rattle.store.proofs.hand_over.Given as goal

abbrev pub invariant-loop-i : goal.invariant-loop-i
invariant-loop-i l = l.message ≡ paste l.initial.message 0 l.byte-items l.i
