use mathlib.Core.Path.{ap, ◌∙◌, refl}
use Prim.Native.Nat.{ℕ}
use native.Mathlib.Omega.{arith}
use lib.ListN.{replicate}
use lib.Seq.{length-take-le}
use Rattle.lines.proofs.line.line_of_build.Goals as goal

pub returns-clause-built : goal.returns-clause-built
returns-clause-built g c = λ h k.
    let t = c.from-lent.ensures ∙ c.two_at.ensures in
    let n = length-take-le c.from-lent.result c.args.out.now (omega arith) in
    record {
      read = _;
      lent = _;
      room = _;
      left = _;
      line = _;
      met = c.built.ensures;
      reads = refl;
      lends = c.fill.ensures.after (λ y e. e) ∙ ap (λ (i : ℕ). replicate i 90) (n ∙ t);
      before = refl;
      after = refl;
    }
