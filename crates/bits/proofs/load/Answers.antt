use Rattle.bits.proofs.Bytes.{loaded_none, loaded_more, loaded_all}
use Rattle.bits.proofs.load.Goals as goal

pub loop-i-init : goal.loop-i-init
loop-i-init c =
    let e = c.enumerate-i-items.ensures in
    rw (c.into_iter-i-iterator.ensures.into_iter_gives, e.source, e.count, c.rev.ensures.source, c.iter.ensures.rest)
    (loaded_none c.args.s.now)

pub loop-i-preserved : goal.loop-i-preserved
loop-i-preserved c =
    let s = c.in-Some.ensures.steps in
    rw (s.1, s.2)
    (loaded_more c.in-Some.field-0-1.now c.from.result c.requires (λ i. (c.type_inv.s i).fits) s.0 c.from.ensures
    c.loop-i.invariant)

pub returns : goal.returns
returns c = loaded_all c.in-None.ensures.steps.0.0 c.loop-i.invariant
