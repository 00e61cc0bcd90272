use Rattle.probe_transport.proofs.Saying.{book_called}
use Rattle.probe_transport.proofs.booked.Goals as goal

pub returns : goal.returns
returns c =
    let a = c.args in
    let k = c.book-reply.ensures in
    let said = c.book.ensures in (
      k.0,
      book_called a.before a.line.now a.body.now a.source
          c.fields-fields.ensures c.four-n.ensures k.1 said,
    )
