use mathlib.Core.Path.{subst⁻¹}
use Rattle.demands.specs.Req06.{Plans}
use Rattle.demands.proofs.Req06Holds.{req06}
use Rattle.demands.proofs.plans.Goals as goal

pub returns : goal.returns
returns c = let r = c.args.r in subst⁻¹ (Plans r) c.calendar_of.ensures (req06.plans r)
