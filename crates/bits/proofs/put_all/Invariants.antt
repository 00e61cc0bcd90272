use Rattle.bits.specs.Bits.{bits_of, over}
use Rattle.bits.specs.Layout.{parts_with, pack}
use Rattle.bits.proofs.Packing.{ToPut}
use Rattle.bits.proofs.put_all.Given as goal

abbrev pub invariant-loop-width : goal.invariant-loop-width
invariant-loop-width l =
    let it = l.width-iterator in
    ToPut it.a.rest.now it.b.rest.now (over l.at (pack (parts_with l.widths l.values)) (bits_of l.initial.out))
    l.out l.to l.n l.acc
