use Rattle.reports.proofs.NearLaws.{flat_write}
use Rattle.reports.proofs.near.put.Goals as goal

pub returns : goal.returns
returns c ps e = rw e (flat_write ps c.args.i c.args.n)
