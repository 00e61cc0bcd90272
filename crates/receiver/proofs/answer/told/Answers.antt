use native.Mathlib.Omega.{arith}
use mathlib.Core.Path.{refl}
use Rattle.receiver.proofs.TellLaws.{single_tells, joined_tells, plain_tells}
use Rattle.receiver.proofs.answer.told.Goals as goal

pub returns-in-Single : goal.returns-in-Single
returns-in-Single c j s e =
    let a = c.args in
    rw (c.plain-told.ensures, c.in-Single.is)
    (single_tells a.x a.blocks.now c.requires.inside a.joining j a.v.dropped a.message.now
    (omega (arith, c.requires.room)) c.hand_block.ensures)

pub returns-in-Joined : goal.returns-in-Joined
returns-in-Joined c j s e =
    let a = c.args in
    rw (c.plain-told.ensures, c.in-Joined.is)
    (joined_tells a.x a.blocks.now c.requires.inside a.joining j a.v.dropped a.message.now s e c.requires.room
    c.hand_joined.ensures)

pub returns-in_default : goal.returns-in_default
returns-in_default c j s e =
    let a = c.args in
    rw c.plain-told.ensures
    (plain_tells a.x a.blocks.now c.requires.inside a.joining j a.v.dropped a.message.now a.v.outcome
    c.in_default.not-Single c.in_default.not-Joined refl)
