use mathlib.Core.Path.{sym, ◌∙◌}
use mathlib.Core.Logic.{inl, inr}
use Rattle.slotlog.specs.declared.log.Next.TheVariants.{Other, Cut, Part, End}
use Rattle.slotlog.specs.declared.replies.Shown.TheVariants as shown
use Rattle.slotlog.proofs.RunLaws.{passed_at, replies_same}
use Rattle.slotlog.proofs.replies.next.Goals as goal

pub returns-in-Other : goal.returns-in-Other
returns-in-Other c =
    let a = c.args in
    let n = c.in-Other.n in
    let e = sym c.read.ensures ∙ c.in-Other.is in
    replies_same a.receiver a.rest.now n shown.Other c.requires
    (λ s ls. passed_at s ls a.rest.now (Other n) e)

pub returns-in-Cut : goal.returns-in-Cut
returns-in-Cut c =
    let a = c.args in
    let e = sym c.read.ensures ∙ c.in-Cut.is in
    replies_same a.receiver a.rest.now 0 shown.Cut c.requires
    (λ s ls. passed_at s ls a.rest.now Cut e)

pub returns-in-Part : goal.returns-in-Part
returns-in-Part c =
    let a = c.args in
    elim c.in-Part.is [
      | inl e ↦ replies_same a.receiver a.rest.now 0 shown.Wants c.requires
          (λ s ls. passed_at s ls a.rest.now Part (sym c.read.ensures ∙ e))
      | inr e ↦ replies_same a.receiver a.rest.now 0 shown.Wants c.requires
          (λ s ls. passed_at s ls a.rest.now End (sym c.read.ensures ∙ e))
    ]
