use mathlib.Core.Path.{◌≡◌}
use Prim.Native.Nat.{◌+◌, ◌-◌, ◌*◌, ◌%◌, ◌^◌}
use native.Mathlib.Nat.{mod-lt}
use native.Mathlib.Omega.{arith}
use lib.Pow.{pow_pos}
use lib.ListN.{take, drop}
use lib.Seq.{slice}
use Rattle.std.proofs.lemmas.Slice.{between_is}
use Rattle.bits.proofs.Bytes.{get_field}
use Rattle.bits.proofs.field.Goals as goal

pub returns : goal.returns
returns c =
    let a = c.args in
    let f = c.min-first.result in
    let part : take (f + 8 - f) (drop f a.s.now) ≡ slice f (f + 8) a.s.now = between_is a.s.now f (f + 8) in
    let e : f * 8 % 2 ^ 64 + 64 - (a.at + a.w) ≡ 8 * (f + 8) - (a.at + a.w) = omega arith in
    record {
      is =
          rw (c.cut.ensures, e)
          (get_field a.s.now a.at a.w f (f + 8) c.load.result
          (omega arith) (omega arith) (omega arith) (omega arith)
          (rw part at c.load.ensures));
      small = rw c.cut.ensures (mod-lt _ (pow_pos a.w));
    }
