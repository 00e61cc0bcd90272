use mathlib.Core.Path.{◌≡◌, ◌∙◌}
use native.Mathlib.Omega.{arith}
use mathlib.Core.Logic.{inl, inr}
use lib.ListN.{length}
use Rattle.bits.proofs.Packing.{none_put, join_next, wait_next, all_put}
use Rattle.bits.proofs.put_all.Goals as goal

pub loop-width-init : goal.loop-width-init
loop-width-init c =
    let a = c.args in
    let p = c.requires in
    let z = c.zip-width-items.ensures in
    rw (c.into_iter-width-iterator.ensures.into_iter_gives, z.first, c.iter.ensures.rest, z.second.0)
    (none_put a.widths.now a.values.now a.out.now a.at p.0 p.1 p.2 p.3)

pub overflow_add-n : goal.overflow_add-n
overflow_add-n c =
    let m = c.in-Some.ensures.steps in
    let s = rw (m.0, m.1) at c.loop-width.invariant in omega (arith, s.short, s.narrow.0)

pub put-requires : goal.put-requires
put-requires c = let s = c.loop-width.invariant in (omega arith, s.short, s.held)

pub overflow_add-to : goal.overflow_add-to
overflow_add-to c = let s = c.loop-width.invariant in omega arith

pub loop-width-preserved-then-n-w-gt-FIELD : goal.loop-width-preserved-then-n-w-gt-FIELD
loop-width-preserved-then-n-w-gt-FIELD c =
    let m = c.in-Some.ensures.steps in
    rw c.from-w.ensures
    (wait_next (rw (m.0, m.1) at c.loop-width.invariant) c.put.new.out (omega arith) c.put.ensures)

pub loop-width-preserved : goal.loop-width-preserved
loop-width-preserved c =
    let m = c.in-Some.ensures.steps in
    rw c.from-w.ensures (join_next (rw (m.0, m.1) at c.loop-width.invariant) (omega arith))

pub put-requires-2 : goal.put-requires-2
put-requires-2 c = let s = c.loop-width.invariant in (omega arith, s.short, s.held)

pub returns : goal.returns
returns c =
    let l = c.loop-width in
    let it = l.width-iterator in
    let e : length it.a.rest.now ≡ 0 =
    elim c.in-None.ensures.steps [ inl x ↦ x.1.0 | inr x ↦ omega (arith, l.invariant.paired, x.1.0) ] in
    c.put-2.ensures ∙ all_put it.a.rest.now it.b.rest.now e l.invariant
