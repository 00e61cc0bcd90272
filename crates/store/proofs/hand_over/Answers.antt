use mathlib.Core.Path.{◌≡◌, refl, ◌∙◌}
use mathlib.Core.List.{[]}
use Prim.Native.Nat.{ℕ, ◌+◌, ◌/◌}
use native.Mathlib.Nat.{zero-add}
use native.Mathlib.Omega.{arith}
use lib.ListN.{length-take}
use lib.Seq.{paste-zero, take-take}
use Rattle.store.proofs.Messages.{paste_more}
use Rattle.store.proofs.hand_over.Goals as goal

pub loop-i-init : goal.loop-i-init
loop-i-init c = paste-zero c.args.message.now 0 []

pub loop-i-preserved : goal.loop-i-preserved
loop-i-preserved c =
    rw c.loop-i.invariant
    (paste_more c.args.message.now _ c.loop-i.i (omega (arith, length-take {A = ℕ})) (omega arith))

pub returns : goal.returns
returns c =
    let q = (c.args.n + 7) / 8 in
    let e : c.loop-i.i ≡ q = omega (arith, length-take {A = ℕ}) in
    c.loop-i.invariant ∙ rw (e, zero-add q, take-take q q c.args.store.now (omega arith)) refl
