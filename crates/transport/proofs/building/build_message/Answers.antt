use mathlib.Core.Path.{◌≡◌, refl, ◌∙◌}
use Prim.Native.Nat.{◌+◌}
use Rattle.std.proofs.Common.{rules}
use Rattle.blocks.specs.Faults.{number_of}
use Rattle.transport.specs.Building.{answer}
use Rattle.transport.specs.declared.Sdu.{Sdu}
use Rattle.transport.proofs.KindLaws.{chosen_is}
use Rattle.transport.proofs.ReadLaws.{no_zero}
use Rattle.transport.proofs.MessageLaws.{narrow_message, message_refused, puts, message_built}
use Rattle.transport.proofs.building.build_message.Goals as goal

pub all_fit-requires : goal.all_fit-requires
all_fit-requires c =
    let w = rw c.requires.kind at c.widths-widths.ensures in
    (rw (w, c.values_of-values.ensures) refl, rw w (narrow_message c.requires.passed))

pub returns-in_err-fit_rules : goal.returns-in_err-fit_rules
returns-in_err-fit_rules c =
    let a = c.args in
    let k = c.requires.kind in
    let l = c.message_bits-own.result + a.n in
    let f = c.in_err-fit_rules.field-0.0 in
    let e : answer c.from_residual.result ≡ record { fault = number_of f; bits = 0 } = search rules in
    let given =
    message_refused a.ack a.flag a.n a.m a.user.now a.out.now c.requires.passed (rw k at c.data_at-from.ensures.0)
    (rw k at c.message_bits-own.ensures.0) (rw k at (c.per-length.ensures ∙ chosen_is a.kind l l l 0))
    (rw k at c.widths-widths.ensures) c.values_of-values.ensures c.most_for.ensures
    c.all_fit.ensures (rw c.from.ensures at c.bits_lent.ensures) c.in_err-fit_rules.ensures (no_zero f) in
    record { bits = e ∙ given.0; out = given.1 }

pub put_sdu-requires : goal.put_sdu-requires
put_sdu-requires c =
    let a = c.args in
    let k = c.requires.kind in
    let l = c.message_bits-own.result + a.n in
    puts a.ack a.flag a.n a.m a.user.now a.out.now c.requires.passed (rw k at c.data_at-from.ensures.0)
    (rw k at c.message_bits-own.ensures.0) (rw k at (c.per-length.ensures ∙ chosen_is a.kind l l l 0))
    (rw k at c.widths-widths.ensures) c.values_of-values.ensures c.most_for.ensures
    c.all_fit.ensures (rw c.from.ensures at c.bits_lent.ensures) c.in_ok-fit_rules.ensures refl

pub returns : goal.returns
returns c =
    let a = c.args in
    let k = c.requires.kind in
    let l = c.message_bits-own.result + a.n in
    let built =
    message_built a.ack a.flag a.n a.m a.user.now a.out.now c.requires.passed (rw k at c.data_at-from.ensures.0)
    (rw k at c.message_bits-own.ensures.0) (rw k at (c.per-length.ensures ∙ chosen_is a.kind l l l 0))
    (rw k at c.widths-widths.ensures) c.values_of-values.ensures c.most_for.ensures
    c.all_fit.ensures (rw c.from.ensures at c.bits_lent.ensures) c.in_ok-fit_rules.ensures refl c.put_sdu.ensures in
    record { bits = rw c.from.ensures built.0; out = built.1 }
