use Rattle.reports.proofs.NearLaws.{flat_read}
use Rattle.reports.proofs.near.place.Goals as goal

pub returns : goal.returns
returns c ps e = rw e (flat_read ps c.args.i)
