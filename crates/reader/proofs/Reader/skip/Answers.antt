use Rattle.reader.proofs.Steps.{skip_said}
use Rattle.reader.proofs.Reader.skip.Goals as goal

pub returns-clause-answer : goal.returns-clause-answer
returns-clause-answer c =
    let r = c.args.self.now in
    let w = c.in_ok-by.ensures in
    skip_said r.block.now r.at c.args.n w.1 w.2.answer
