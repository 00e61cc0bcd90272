use mathlib.Core.Path.{refl}
use Rattle.probe_transport.specs.Body.{message_in}
use Rattle.probe_transport.proofs.body.message.Goals as goal

pub returns : goal.returns
unfolding message_in
returns c =
    rw (c.four.ensures, c.four-2.ensures, c.eight.ensures) refl
