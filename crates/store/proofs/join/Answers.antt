use native.Mathlib.Omega.{arith}
use lib.ListN.{take, drop, length-take}
use Rattle.bits.specs.Bits.{bits_of}
use Rattle.bits.proofs.Bytes.{all_bytes}
use Rattle.store.proofs.Stores.{joined_is}
use Rattle.store.proofs.join.Goals as goal

pub returns : goal.returns
returns c =
    let a = c.args in
    let r = drop a.from (bits_of a.s.now) in
    let new = c.copy.new.dst in
    joined_is a.store.now new a.at (take a.n r) (all_bytes new (λ i. (c.type_inv.store i).fits))
    (omega arith)
    (omega (arith, length-take a.n r)) c.copy.ensures
