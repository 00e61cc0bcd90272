use Rattle.text.proofs.Writing.{wrote_none}
use Rattle.slotlog.proofs.print.shown_line.Goals as goal

pub returns-in-Wants-clause-wrote : goal.returns-in-Wants-clause-wrote
returns-in-Wants-clause-wrote c = rw c.in-Wants.is (wrote_none c.args.out.now c.args.at)
