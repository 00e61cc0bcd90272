use mathlib.Core.Path.{◌≡◌, ◌∙◌}
use Rattle.std.proofs.Common.{rules, tests}
use Rattle.std.proofs.lemmas.Iterator.{YieldsList-from_slice, cases_from_all}
use Rattle.lines.proofs.Outputs.{rest_found}
use Rattle.lines.proofs.line.rest.Goals as goal

pub returns : goal.returns
returns c =
    let s = c.args.s.now in
    let bytes = YieldsList-from_slice s c.iter.ensures.rest in
    let found =
    cases_from_all _ _ _ (λ x. x ≡ 90) (λ x. x ≡ 90 → ⊥) c.all.ensures.ran bytes
    (λ x q k. search (rules, tests)) (λ x q k. search (rules, tests)) in
    c.from.ensures ∙ rest_found s c.all.result found
