use mathlib.Core.Path.{◌≡◌, sym, ap₂, ◌∙◌}
use Prim.Native.Nat.{ℕ, ◌-◌}
use native.Mathlib.Omega.{arith}
use lib.ListN.{length}
use Rattle.bits.specs.Bits.{bits_of}
use Rattle.bits.proofs.Numbers.{fits_in}
use Rattle.bits.proofs.Bytes.{length_bits_of}
use Rattle.store.proofs.Blocks.{side_by_side, first_half, second_half}
use Rattle.store.proofs.without_two.Goals as goal

pub returns : goal.returns
returns c =
    let a = c.args in
    let b = bits_of a.h.now in
    let l : length b ≡ 128 = omega (arith, length_bits_of a.h.now) in
    let g1 = c.get in
    let g2 = c.get-2 in
    let g3 = c.get-3 in
    let g4 = c.get-4 in
    ap₂ (λ (x y : ℕ). record { high = x; low = y })
    (side_by_side a.at (64 - a.at) g1.result g2.result g1.ensures.small
    (fits_in (64 - a.at) g2.ensures.small (omega arith)) (omega arith)
    ∙ rw (g1.ensures.is, g2.ensures.is) (sym (first_half a.at b l (omega arith))))
    (side_by_side 32 32 g3.result g4.result g3.ensures.small g4.ensures.small (omega arith)
    ∙ rw (g3.ensures.is, g4.ensures.is) (sym (second_half a.at b l (omega arith))))
