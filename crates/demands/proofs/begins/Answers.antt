use Rattle.demands.proofs.CallLaws.{begins}
use Rattle.demands.proofs.begins.Goals as goal

pub returns : goal.returns
returns c =
    let a = c.args in
    let (e, k) = c.fresh.ensures in
    (begins a.individual a.group a.mni _ e, k)
