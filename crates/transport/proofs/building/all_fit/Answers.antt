use mathlib.Core.Path.{◌≡◌, refl}
use native.Mathlib.Omega.{arith}
use lib.ListN.{length, get_or}
use Rattle.std.proofs.lemmas.Slice.Zip.{zip_turn}
use borrow.Author.Rules.{rules}
use Rattle.transport.proofs.BuildLaws.{too_large, narrow_in}
use Rattle.transport.proofs.building.all_fit.Goals as goal

pub overflow_shl-w : goal.overflow_shl-w
overflow_shl-w c =
    let a = c.args in
    let t = zip_turn a.widths.now a.values.now _ c.into_iter-w-iterator.result c.loop-w.w-iterator c.next.new.self _
    (search rules) (search rules) c.loop-w.yielded_by _ c.in-Some.is c.next.ensures.steps in
    let w = narrow_in a.widths.now (length c.loop-w.yielded) c.requires.1 (t.2 0) in
    omega arith

pub returns-then-w-v : goal.returns-then-w-v
returns-then-w-v c =
    let a = c.args in
    let l = c.loop-w in
    let t = zip_turn a.widths.now a.values.now _ c.into_iter-w-iterator.result c.loop-w.w-iterator c.next.new.self _
    (search rules) (search rules) c.loop-w.yielded_by _ c.in-Some.is c.next.ensures.steps in
    too_large a.widths.now a.values.now (length l.yielded) t.0 c.requires.0 c.requires.1 (t.2 0)
    l.invariant (rw (t.3 0) at c.if-w-v.true)
