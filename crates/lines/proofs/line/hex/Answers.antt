use mathlib.Core.Path.{◌≡◌}
use native.Mathlib.Omega.{arith}
use lib.ListN.{length}
use Rattle.std.proofs.Common.{rules, tests}
use Rattle.lines.proofs.Outputs.{hex_some, wrote_dash}
use Rattle.lines.proofs.line.hex.Goals as goal

pub returns-then-is_empty : goal.returns-then-is_empty
returns-then-is_empty c =
    let a = c.args in
    let none : length a.s.now ≡ 0 = search (rules, tests) in
    (wrote_dash a.out.now a.at a.s.now none (omega arith), omega arith)

pub returns : goal.returns
returns c =
    let a = c.args in
    let some : length a.s.now ≡ 0 → ⊥ = search (rules, tests) in
    (rw (hex_some a.s.now some) c.hex.ensures.0, omega (arith, c.hex.ensures.1))
