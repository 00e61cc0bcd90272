use mathlib.Core.Path.{◌≡◌, sym, ◌∙◌}
use Prim.Native.Nat.{suc, ◌+◌, ◌-◌, ◌*◌, ◌/◌}
use native.Mathlib.Nat.{mod-lt}
use native.Mathlib.Omega.{arith}
use lib.Bits.{bit_and, and_mask}
use lib.Pow.{pow_pos}
use Rattle.bits.proofs.Bytes.{get_field, num_byte}
use Rattle.bits.proofs.get_in_byte.Goals as goal

pub overflow_sub-last : goal.overflow_sub-last
overflow_sub-last c = omega (arith, and_mask c.args.last 3)

pub cut-requires : goal.cut-requires
cut-requires c = omega (arith, and_mask c.args.last 3)

pub returns : goal.returns
returns c =
    let a = c.args in
    let f = a.last / 8 in
    let at = a.last + 1 - a.k in
    let e : 7 - bit_and a.last 7 ≡ 8 * suc f - (at + a.k) = omega (arith, and_mask a.last 3) in
    let byte = num_byte a.s.now f (omega arith) (omega (arith, c.type_inv.s f)) in
    record {
      is =
          rw (c.cut.ensures, e)
          (get_field a.s.now at a.k f (suc f) c.from.result
          (omega arith) (omega arith) (omega arith) (omega arith) (c.from.ensures ∙ sym byte));
      small = rw c.cut.ensures (mod-lt _ (pow_pos a.k));
    }
