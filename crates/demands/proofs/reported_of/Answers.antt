use native.Mathlib.Omega.{arith}
use lib.ListN.{length-take}
use Rattle.demands.proofs.reported_of.Goals as goal

pub slice_bounds-read_reported-end : goal.slice_bounds-read_reported-end
slice_bounds-read_reported-end c = let l = c.requires in simp length-take (omega arith)
