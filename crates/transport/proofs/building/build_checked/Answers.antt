use mathlib.Core.Path.{◌≡◌, refl, ◌∙◌}
use Rattle.std.proofs.Common.{rules}
use Rattle.blocks.specs.Faults.{number_of}
use Rattle.transport.specs.Building.{answer}
use Rattle.transport.specs.declared.Sdu.{Sdu}
use Rattle.transport.proofs.KindLaws.{chosen_is}
use Rattle.transport.proofs.ReadLaws.{no_zero}
use Rattle.transport.proofs.MessageLaws.{build_none, build_kind, build_flags, build_passed, build_rest}
use Rattle.transport.proofs.building.build_checked.Goals as goal

pub returns-in_err-kind : goal.returns-in_err-kind
returns-in_err-kind c =
    let a = c.args in
    let e : answer c.from_residual.result ≡ record { fault = 21; bits = 0 } = search rules in
    let given = build_none a.carrier a.flag a.n a.m a.user.now a.out.now c.in_err-kind.ensures.1 in
    record { bits = e ∙ given.0; out = given.1 }

pub returns-in_err-kind_rules : goal.returns-in_err-kind_rules
returns-in_err-kind_rules c =
    let a = c.args in
    let k = c.in_ok-kind.kind in
    let n = c.in_ok-kind.ensures in
    let f = c.in_err-kind_rules.field-0.0 in
    let e : answer c.from_residual-in_err-kind_rules.result ≡ record { fault = number_of f; bits = 0 } =
    search rules in
    let given =
    build_kind a.carrier a.flag a.n a.m a.user.now a.out.now c.ack_of-ack.ensures
    (rw n at (c.per.ensures ∙ chosen_is k 128 128 128 0)) (rw n at c.stored_holds.ensures)
    c.in_err-kind_rules.ensures (no_zero f) in
    record { bits = e ∙ given.0; out = given.1 }

pub returns-in_err-flag_rules : goal.returns-in_err-flag_rules
returns-in_err-flag_rules c =
    let a = c.args in
    let k = c.in_ok-kind.kind in
    let n = c.in_ok-kind.ensures in
    let f = c.in_err-flag_rules.field-0.0 in
    let e : answer c.from_residual-in_err-flag_rules.result ≡ record { fault = number_of f; bits = 0 } =
    search rules in
    let given =
    build_flags a.carrier a.flag a.n a.m a.user.now a.out.now c.ack_of-ack.ensures
    (rw n at (c.per.ensures ∙ chosen_is k 128 128 128 0)) (rw n at c.stored_holds.ensures)
    c.in_ok-kind_rules.ensures refl (rw n at (c.per-2.ensures ∙ chosen_is k 2047 2047 0 0)) c.bits_lent.ensures
    c.in_err-flag_rules.ensures (no_zero f) in
    record { bits = e ∙ given.0; out = given.1 }

pub build_message-requires-clause-passed : goal.build_message-requires-clause-passed
build_message-requires-clause-passed c =
    let a = c.args in
    let k = c.in_ok-kind.kind in
    let n = c.in_ok-kind.ensures in
    build_passed a.carrier a.flag a.n a.m a.user.now a.out.now c.ack_of-ack.ensures
    (rw n at (c.per.ensures ∙ chosen_is k 128 128 128 0)) (rw n at c.stored_holds.ensures)
    c.in_ok-kind_rules.ensures refl (rw n at (c.per-2.ensures ∙ chosen_is k 2047 2047 0 0)) c.bits_lent.ensures
    c.in_ok-flag_rules.ensures refl

pub returns : goal.returns
returns c =
    let a = c.args in
    let k = c.in_ok-kind.kind in
    let n = c.in_ok-kind.ensures in
    let given =
    build_rest a.carrier a.flag a.n a.m a.user.now a.out.now c.ack_of-ack.ensures
    (rw n at (c.per.ensures ∙ chosen_is k 128 128 128 0)) (rw n at c.stored_holds.ensures)
    c.in_ok-kind_rules.ensures refl (rw n at (c.per-2.ensures ∙ chosen_is k 2047 2047 0 0)) c.bits_lent.ensures
    c.in_ok-flag_rules.ensures refl c.build_message.ensures.bits c.build_message.ensures.out in
    record { bits = given.0; out = given.1 }
