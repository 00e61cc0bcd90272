use mathlib.Core.Path.{ap, ◌∙◌}
use Prim.Native.Nat.{◌-◌}
use native.Mathlib.Omega.{arith}
use lib.ListN.{length}
use Rattle.std.proofs.lemmas.Slice.{between_to_end}
use Rattle.bits.specs.Bits.{bits_of}
use Rattle.bits.proofs.Writing.{bits_of_last}
use Rattle.bits.proofs.store.Goals as goal

pub returns : goal.returns
returns c =
    let n = length c.args.out.now in
    let bytes = rw c.to_be_bytes.ensures at c.copy_from_slice.ensures.after in
    ap bits_of (bytes ∙ between_to_end _ (8 - n) 8 (omega arith)) ∙ bits_of_last n 8 c.args.v (omega arith)
