use mathlib.Core.Path.{◌∙◌}
use Prim.Native.Nat.{◌+◌, ◌-◌, ◌*◌, ◌%◌, ◌^◌}
use native.Mathlib.Omega.{arith}
use lib.ListN.{length}
use Rattle.bits.proofs.Writing.{put_field}
use Rattle.bits.proofs.put_through.Goals as goal

pub returns : goal.returns
returns c =
    let a = c.args in
    let s = a.out.now in
    let r = length s * 8 % 2 ^ 64 - (a.at + a.w) in
    c.store.ensures ∙ rw (c.pasted.ensures, c.load-whole.ensures)
    (put_field s a.at a.w a.v r (omega arith) (omega arith))
