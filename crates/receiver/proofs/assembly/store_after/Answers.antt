use mathlib.Core.Path.{sym, ap, ◌∙◌}
use native.Mathlib.Omega.{arith}
use Rattle.store.specs.Store.{store_of}
use Rattle.history.specs.Step.{clears}
use Rattle.receiver.specs.View.{brought_bits}
use Rattle.receiver.proofs.TellLaws.{length_brought, left_of, joined_is, store_left, left_least, left_is, join_is}
use Rattle.receiver.proofs.assembly.store_after.Goals as goal

pub returns-then-joins : goal.returns-then-joins
returns-then-joins c j s e =
    let a = c.args in
    let b = brought_bits a.x a.blocks.now in
    let n = length_brought a.x a.blocks.now c.requires.inside in
    let o = c.start in
    let w = left_is a.act j b o.ensures e in
    join_is (left_of a.act j) b (c.clear.ensures ∙ rw (c.clears.ensures, s) (store_left a.act j)) w
    (omega (arith, n, left_least (clears a.act) a.at, o.ensures, c.requires.room)) c.join.ensures
    ∙ ap store_of (sym (joined_is a.act b j (sym c.joins.ensures ∙ c.if-joins.true)))
