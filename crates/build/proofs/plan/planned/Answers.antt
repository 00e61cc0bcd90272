-- Each test that passed leaves the rules after it; the first that does not gives the answer.
use Rattle.std.proofs.Common.{rules}
use Rattle.std.specs.Prelude.{Err}
use mathlib.Core.Path.{◌≡◌, sym, ◌∙◌}
use Rattle.blocks.proofs.FaultLaws.{no_zero}
use Rattle.build.proofs.PlanLaws.{by_numbers, by_to, by_from, by_run, by_lent, by_cut}
use Rattle.build.proofs.plan.planned.Goals as goal

pub returns-in_err-number_rules : goal.returns-in_err-number_rules
returns-in_err-number_rules c =
    let a = c.args in
    let e : c.from_residual.result ≡ Err c.in_err-number_rules.field-0.0 = search rules in
    rw e
    (by_numbers a.sync a.countdown a.fields a.n a.bytes a.lent
    (rw c.in_err-number_rules.was at c.number_rules.ensures) (no_zero _))

pub returns-in_err-address_rules : goal.returns-in_err-address_rules
returns-in_err-address_rules c =
    let a = c.args in
    let e : c.from_residual-in_err-address_rules.result ≡ Err c.in_err-address_rules.field-0.0 = search rules in
    rw e
    (by_to a.sync a.countdown a.fields a.n a.bytes a.lent (sym (rw c.in_ok-number_rules.was at c.number_rules.ensures))
    (rw c.in_err-address_rules.was at c.address_rules.ensures) (no_zero _))

pub returns-in_err-address_rules-2 : goal.returns-in_err-address_rules-2
returns-in_err-address_rules-2 c =
    let a = c.args in
    let e : c.from_residual-in_err-address_rules-2.result ≡ Err c.in_err-address_rules-2.field-0.0 = search rules in
    rw e
    (by_from a.sync a.countdown a.fields a.n a.bytes a.lent
    (sym (rw c.in_ok-number_rules.was at c.number_rules.ensures))
    (sym (rw c.in_ok-address_rules.was at c.address_rules.ensures))
    (rw c.in_err-address_rules-2.was at c.address_rules-2.ensures) (no_zero _))

pub returns-then-not-run_fits : goal.returns-then-not-run_fits
returns-then-not-run_fits c =
    let a = c.args in
    by_run a.sync a.countdown a.fields a.n a.bytes a.lent
    (sym (rw c.in_ok-number_rules.was at c.number_rules.ensures))
    (sym (rw c.in_ok-address_rules.was at c.address_rules.ensures))
    (sym (rw c.in_ok-address_rules-2.was at c.address_rules-2.ensures))
    (sym c.run_fits.ensures ∙ c.if-not-run_fits.true)

pub returns-then-not-bits_lent : goal.returns-then-not-bits_lent
returns-then-not-bits_lent c =
    let a = c.args in
    by_lent a.sync a.countdown a.fields a.n a.bytes a.lent
    (sym (rw c.in_ok-number_rules.was at c.number_rules.ensures))
    (sym (rw c.in_ok-address_rules.was at c.address_rules.ensures))
    (sym (rw c.in_ok-address_rules-2.was at c.address_rules-2.ensures))
    (sym c.run_fits.ensures ∙ c.if-not-run_fits.false)
    (sym c.bits_lent.ensures ∙ c.if-not-bits_lent.true)

pub returns : goal.returns
returns c =
    let a = c.args in
    c.plan_of.ensures
    ∙ rw (c.header_bits-h.ensures, c.entry_of-entry.ensures)
    (by_cut a.sync a.countdown a.fields a.n a.bytes a.lent
    (sym (rw c.in_ok-number_rules.was at c.number_rules.ensures))
    (sym (rw c.in_ok-address_rules.was at c.address_rules.ensures))
    (sym (rw c.in_ok-address_rules-2.was at c.address_rules-2.ensures))
    (sym c.run_fits.ensures ∙ c.if-not-run_fits.false)
    (sym c.bits_lent.ensures ∙ c.if-not-bits_lent.false))
