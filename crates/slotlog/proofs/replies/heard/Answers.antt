use Rattle.slotlog.proofs.LogLaws.{report_at}
use Rattle.slotlog.proofs.RunLaws.{report_lent, replies_report}
use Rattle.slotlog.proofs.replies.heard.Goals as goal

pub returns : goal.returns
returns c =
    let a = c.args in
    let e = c.requires.report in
    let w = a.rest.now in
    let y = rw (report_lent w a.n (report_at w a.n e)) at c.hear-reply.ensures in
    replies_report a.receiver w a.n e y
