use mathlib.Core.Path.{◌≡◌, refl, sym, ap, ◌∙◌}
use Prim.Native.Nat.{ℕ, ◌+◌, ◌-◌}
use native.Mathlib.Omega.{arith}
use Rattle.std.proofs.Common.{rules}
use Rattle.blocks.specs.Faults.{number_of}
use Rattle.transport.specs.Kinds.{number, number_or}
use Rattle.transport.specs.Reading.{answer, refused_transport}
use Rattle.transport.proofs.KindLaws.{chosen_is, one_of_four}
use Rattle.transport.proofs.ReadLaws.{no_zero, front_refused, kind_refused, last_refused, last_found}
use Rattle.transport.proofs.reading.read_bits.Goals as goal

pub returns-in_err-front_rules : goal.returns-in_err-front_rules
returns-in_err-front_rules c =
    let a = c.args in
    let f = c.in_err-front_rules.field-0.0 in
    let e : answer c.from_residual.result ≡ refused_transport (number_of f) = search rules in
    e
    ∙ front_refused a.carrier a.flag a.n a.s.now c.requires.0
    c.ack_of-ack.ensures c.run.ensures c.front_of-front.ensures.0
    refl refl c.in_err-front_rules.ensures (no_zero f)

pub returns-in_err-kind : goal.returns-in_err-kind
returns-in_err-kind c =
    let a = c.args in
    let e : answer c.from_residual-in_err-kind.result ≡ refused_transport 21 = search rules in
    e
    ∙ kind_refused a.carrier a.flag a.n a.s.now c.requires.0
    c.ack_of-ack.ensures c.run.ensures c.front_of-front.ensures.0
    c.run-x.ensures c.kind_at.ensures (sym c.in_ok-front_rules.ensures)
    (ap number_or c.in_err-kind.ensures.ok_part)

pub returns-in_err-end_rules : goal.returns-in_err-end_rules
returns-in_err-end_rules c =
    let a = c.args in
    let f = c.in_err-end_rules.field-0.0 in
    let x = c.fixed_at-fixed.result in
    let k = c.in_ok-kind.kind in
    let e : answer c.from_residual-in_err-end_rules.result ≡ refused_transport (number_of f) = search rules in
    e
    ∙ last_refused a.carrier a.flag a.n a.s.now c.requires.0
    c.ack_of-ack.ensures c.run.ensures c.front_of-front.ensures.0
    c.run-x.ensures (rw c.in_ok-kind.ensures.ok_part at c.kind_at.ensures) c.fixed_at-fixed.ensures.0
    c.stored_at-stored.ensures.0
    (ap (λ (w : ℕ). x.from + w) (c.per.ensures ∙ chosen_is k x.length x.length x.length 16))
    (sym c.in_ok-front_rules.ensures) (one_of_four k).0
    c.forward_holds-forward.ensures c.fcs_holds-check.ensures c.in_err-end_rules.ensures
    (no_zero f)

pub returns : goal.returns
returns c =
    let a = c.args in
    let x = c.fixed_at-fixed.result in
    let t = c.stored_at-stored.result in
    let k = c.in_ok-kind.kind in
    let r = x.from + c.per.result - t.next in
    rw (c.number.ensures, c.per-2.ensures, c.per-3.ensures, chosen_is k t.next t.next 0 0, chosen_is k r r 0 0)
    (last_found a.carrier a.flag a.n a.s.now c.requires.0
    c.ack_of-ack.ensures c.run.ensures c.front_of-front.ensures.0
    c.run-x.ensures (rw c.in_ok-kind.ensures.ok_part at c.kind_at.ensures) c.fixed_at-fixed.ensures.0
    c.stored_at-stored.ensures.0
    (ap (λ (w : ℕ). x.from + w) (c.per.ensures ∙ chosen_is k x.length x.length x.length 16))
    (sym c.in_ok-front_rules.ensures) (one_of_four k).0
    c.forward_holds-forward.ensures c.fcs_holds-check.ensures (sym c.in_ok-end_rules.ensures))
