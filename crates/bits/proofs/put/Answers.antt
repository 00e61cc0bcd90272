use mathlib.Core.Path.{◌≡◌}
use Prim.Native.Nat.{◌+◌, ◌-◌, ◌*◌, ◌%◌, ◌^◌}
use native.Mathlib.Omega.{arith}
use lib.ListN.{take, drop}
use Rattle.bits.specs.Bits.{over, bits_n, bits_of}
use Rattle.bits.proofs.Numbers.{length_bits_n}
use Rattle.bits.proofs.Writing.{put_part}
use Rattle.bits.proofs.put.Goals as goal

pub returns : goal.returns
returns c =
    let a = c.args in
    let s = a.out.now in
    let f = c.min-first.result in
    let n = c.put_through-2.new.out in
    let k : f + 8 - f ≡ 8 = omega arith in
    let e : a.at - f * 8 % 2 ^ 64 ≡ a.at - 8 * f = omega arith in
    let p : bits_of n ≡ over (a.at - 8 * f) (bits_n a.w a.v) (bits_of (take 8 (drop f s))) =
    rw (e, k) at c.put_through-2.ensures in
    rw k
    (put_part s n f 8 a.at (bits_n a.w a.v) (omega arith) (omega arith)
    (omega (arith, length_bits_n a.w a.v)) p)
