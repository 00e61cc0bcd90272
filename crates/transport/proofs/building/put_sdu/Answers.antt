use mathlib.Core.Path.{◌∙◌}
use lib.ListN.{take}
use Rattle.bits.specs.Bits.{bits_of}
use Rattle.bits.specs.Layout.{pack, parts_with}
use Rattle.bits.proofs.Bytes.{all_bytes}
use Rattle.bits.proofs.Packing.{length_pack}
use Rattle.transport.proofs.ElementLaws.{length_sdu}
use Rattle.transport.proofs.BuildLaws.{sdu_put}
use borrow.Author.Rules.{rules}
use Rattle.transport.proofs.building.put_sdu.Goals as goal

pub returns : goal.returns
returns c =
    let a = c.args in
    let k = c.requires in
    let u = take a.n (bits_of a.user.now) in
    let ps = parts_with a.widths.now a.values.now in
    sdu_put (pack ps) u a.first a.n a.flag a.out.now c.clear.new.out (length_pack ps ∙ k.elements)
    (length_sdu a.n a.user.now k.lent) k.flagged k.room (bits_of c.put_all.new.out)
    (bits_of c.copy.new.dst) (bits_of c.put_fcs.new.out) c.put_all.ensures c.copy.ensures
    c.put_fcs.ensures (rw c.from.ensures at c.clear.ensures)
    (all_bytes a.out.now (λ j. search rules))
    (all_bytes c.clear.new.out (λ j. (c.type_inv.out j).fits))
