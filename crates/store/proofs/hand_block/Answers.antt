use mathlib.Core.List.{[]}
use native.Mathlib.Omega.{arith}
use borrow.Author.Rules.{rules}
use lib.ListN.{take, drop, length-take}
use Rattle.bits.specs.Bits.{bits_of}
use Rattle.bits.proofs.Bytes.{all_bytes}
use Rattle.store.specs.Store.{store_of}
use Rattle.store.proofs.Stores.{length_store}
use Rattle.store.proofs.Messages.{first_joined, first_nothing}
use Rattle.store.proofs.hand_block.Goals as goal

pub returns : goal.returns
returns c =
    let a = c.args in
    let r = drop a.from (bits_of a.s.now) in
    let m = take a.n r in
    let old = a.message.now in
    let mid = c.clear.new.out in
    let new = c.copy.new.dst in
    first_joined a.n 0 m (store_of []) old mid new
    (all_bytes old (λ i. search rules))
    (all_bytes new (λ i. (c.type_inv.message i).fits))
    (length_store []) (omega (arith, length-take a.n r)) (omega arith)
    (first_nothing a.n old mid (omega arith) c.clear.ensures)
    c.copy.ensures
