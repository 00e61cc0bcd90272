use Rattle.demands.proofs.CallLaws.{builds_again}
use Rattle.demands.proofs.builds_again.Goals as goal

pub returns : goal.returns
returns c =
    let (a, o) = c.build.ensures in
    builds_again _ _ _ _ c.read_header-x.ensures a o
    c.requires
