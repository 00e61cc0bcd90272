use mathlib.Core.Path.{◌≡◌, sym, ◌∙◌}
use Rattle.std.proofs.Common.{rules}
use Rattle.slotlog.specs.declared.run.State.TheVariants.{GoesOn}
use Rattle.slotlog.proofs.TurnLaws.{begun, rest_is, fewer, further}
use Rattle.slotlog.proofs.TurnLaws.{ran_full, ran_over}
use Rattle.slotlog.proofs.run.Run.over.Goals as goal

pub loop-x-init : goal.loop-x-init
loop-x-init c =
    let a = c.args in begun a.receiver a.log.now a.out.now c.requires

pub loop-x-smaller : goal.loop-x-smaller
loop-x-smaller c =
    let x = c.loop-x.x in
    let z : x.state ≡ GoesOn = search rules in
    fewer c.loop-x.invariant z (rw (rest_is x.read c.args.log.now) at c.one-x.ensures)

pub loop-x-preserved : goal.loop-x-preserved
loop-x-preserved c =
    let x = c.loop-x.x in
    let z : x.state ≡ GoesOn = search rules in
    further c.loop-x.invariant z (rw (rest_is x.read c.args.log.now) at c.one-x.ensures)
    (sym c.has_room.ensures ∙ c.if-has_room.true) c.one-x.auto.out

pub returns-else-has_room : goal.returns-else-has_room
returns-else-has_room c = ran_full c.loop-x.invariant (sym c.has_room.ensures ∙ c.if-has_room.false)

pub returns-after-loop-x : goal.returns-after-loop-x
returns-after-loop-x c = ran_over c.loop-x.invariant (search rules)
