use mathlib.Core.Path.{◌≡◌, refl}
use borrow.Author.Rules.{rules}
use Rattle.blocks.specs.Header.{no_fields}
use Rattle.probe_transport.specs.Body.{fields_in}
use Rattle.probe_transport.proofs.body.fields.Goals as goal

pub returns : goal.returns
unfolding fields_in
returns c = let none : c.default.result ≡ no_fields = search rules in rw (none, c.eight.ensures) refl
