use native.Mathlib.Omega.{arith}
use lib.ListN.{length-take}
use Rattle.demands.proofs.header_of.Goals as goal

pub slice_bounds-read_header-end : goal.slice_bounds-read_header-end
slice_bounds-read_header-end c = let l = c.requires in simp length-take (omega arith)
