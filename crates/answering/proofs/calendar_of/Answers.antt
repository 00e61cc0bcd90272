use Rattle.std.proofs.Common.{rules}
use mathlib.Core.Path.{◌≡◌, sym}
use native.Mathlib.Omega.{arith}
use Rattle.blocks.specs.Faults.{number_of}
use Rattle.blocks.proofs.FaultLaws.{no_zero}
use Rattle.answering.specs.Calendar.{no_slot}
use Rattle.answering.proofs.FrameLaws.{fits, granted, refused, first_soon}
use Rattle.answering.proofs.calendar_of.Goals as goal

pub first_frame-requires-clause-fits : goal.first_frame-requires-clause-fits
first_frame-requires-clause-fits c = fits c.args.r (sym c.in-Ok.ensures.fault)

pub slots_from-requires-clause-soon : goal.slots_from-requires-clause-soon
slots_from-requires-clause-soon c =
    let r = c.args.r in
    omega (arith, c.first_frame.ensures, first_soon r (fits r (sym c.in-Ok.ensures.fault)))

pub returns-in-Ok : goal.returns-in-Ok
returns-in-Ok c =
    rw (c.slots_from.ensures, c.has_end.ensures, c.passed_over.ensures, c.first_frame.ensures)
    (granted c.args.r (sym c.in-Ok.ensures.fault))

pub returns-in-Err : goal.returns-in-Err
returns-in-Err c =
    let f = c.in-Err.fault in
    let e : c.default.result ≡ no_slot = search rules in
    rw (c.number.ensures, e) (refused c.args.r (number_of f) c.in-Err.ensures.fault (no_zero f))
