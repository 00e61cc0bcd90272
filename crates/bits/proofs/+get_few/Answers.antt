use mathlib.Core.Path.{◌≡◌, refl}
use Prim.Native.Nat.{◌+◌, ◌-◌}
use native.Mathlib.Omega.{arith}
use lib.ListN.{drop}
use lib.Pow.{pow_pos}
use Rattle.bits.specs.Bits.{num, bits_of}
use Rattle.bits.proofs.Numbers.{num_take_lt, few_code}
use Rattle.bits.proofs.Bytes.{length_bits_of}
use Rattle.bits.proofs.+get_few.Goals as goal

pub returns-then-w-eq0 : goal.returns-then-w-eq0
unfolding num
returns-then-w-eq0 t c = record { is = rw c.if-w-eq0.true refl; small = pow_pos c.args.w }

pub returns : goal.returns
returns t c =
    let a = c.args in
    let k = c.ending-k.result in
    let b = bits_of a.s.now in
    let e : a.at + a.w - 1 + 1 - k ≡ a.at + (a.w - k) = omega arith in
    let is =
    few_code b a.at a.w k c.get_few.result c.get_in_byte.result (omega arith) (omega arith)
    (omega (arith, length_bits_of a.s.now)) c.get_few.ensures.is
    (rw e at c.get_in_byte.ensures.is) in
    record { is = is; small = rw is (num_take_lt a.w (drop a.at b)) }
