use mathlib.Core.List.{[]}
use Rattle.store.proofs.Stores.{length_store}
use Rattle.slotlog.proofs.RunLaws.{answers}
use Rattle.slotlog.proofs.replies.hear.Goals as goal

pub returns : goal.returns
returns c = answers (rw c.nothing-message.ensures (length_store [])) c.hear.ensures
