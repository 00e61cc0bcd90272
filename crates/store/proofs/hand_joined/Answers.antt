use mathlib.Core.Path.{ap}
use Prim.Native.Nat.{◌+◌}
use native.Mathlib.Omega.{arith}
use borrow.Author.Rules.{rules}
use lib.ListN.{take, drop, length-take}
use Rattle.bits.specs.Bits.{bits_of}
use Rattle.bits.proofs.Bytes.{all_bytes}
use Rattle.store.proofs.Messages.{first_joined}
use Rattle.store.proofs.hand_joined.Goals as goal

pub returns : goal.returns
returns c =
    let a = c.args in
    let r = drop a.from (bits_of a.s.now) in
    let m = take a.n r in
    let old = a.message.now in
    let ho = c.hand_over in
    let new = c.copy.new.dst in
    first_joined (a.at + a.n) a.at m a.store.now old ho.new.message new
    (all_bytes old (λ i. search rules))
    (all_bytes new (λ i. (c.type_inv.message i).fits))
    (omega arith) (omega (arith, length-take a.n r)) (omega arith)
    (ap bits_of ho.ensures) c.copy.ensures
