use native.Mathlib.Omega.{arith}
use Rattle.blocks.proofs.WidthLaws.{near_entry}
use Rattle.blocks.proofs.widths.width_at.Goals as goal

pub added_by-first-requires : goal.added_by-first-requires
added_by-first-requires c = let s = near_entry c.args.message c.entry_of-e.ensures in omega arith

pub added_by-second-requires : goal.added_by-second-requires
added_by-second-requires c = let s = near_entry c.args.message c.entry_of-e.ensures in omega arith
