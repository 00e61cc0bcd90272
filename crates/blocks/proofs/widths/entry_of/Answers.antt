use mathlib.Core.Path.{◌∙◌}
use native.Mathlib.Omega.{arith}
use Rattle.blocks.proofs.WidthLaws.{unlisted}
use Rattle.blocks.proofs.widths.entry_of.Goals as goal

-- the codes without a row
pub returns-in_default : goal.returns-in_default
returns-in_default c = c.fixed-in_default.ensures ∙ unlisted c.args.message (omega arith) (λ h. omega arith)
