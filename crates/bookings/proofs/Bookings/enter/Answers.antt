use mathlib.Core.Path.{◌≡◌, ◌∙◌}
use Prim.Native.Nat.{◌+◌, ◌*◌, min}
use native.Mathlib.Omega.{arith}
use lib.ListN.{take}
use Rattle.bookings.proofs.Numbers.{any_is, put_in_front}
use Rattle.bookings.proofs.KeptLaws.{entered_again, entered_new}
use Rattle.bookings.proofs.Bookings.enter.Goals as goal

pub returns-then-contains : goal.returns-then-contains
returns-then-contains c =
    let self = c.args.self.now in
    let x = c.args.source * 256 + c.from.result in
    let e = c.contains.ensures.value ∙ any_is x (take self.count self.pairs) in
    rw (← c.from.ensures) (entered_again self x c.contains.result e c.if-contains.true)

pub returns : goal.returns
returns c =
    let self = c.args.self.now in
    let x = c.args.source * 256 + c.from.result in
    let e = c.contains.ensures.value ∙ any_is x (take self.count self.pairs) in
    let s = put_in_front x self.pairs c.copy_from_slice.ensures.after in
    let m : c.min-self.result ≡ min 32 (self.count + 1) = omega (arith, c.min-self.ensures) in
    rw (← c.from.ensures) (entered_new self x c.contains.result e c.if-contains.false m s)
