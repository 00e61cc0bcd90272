use Rattle.std.proofs.Common.{◌≡◌, ℕ, ◌+◌, ◌<◌, List, arith, length, take, refl, ◌∙◌, sym, length-take-le}
use Rattle.std.proofs.KnownBytes.{Consumes-trans}
use Rattle.std.proofs.lemmas.List.{get_or-take}
use Rattle.records.specs.Numbers.{two_at}
use Rattle.lines.proofs.input.take.Goals as goal

-- the numbers of a head that was read to a buffer's start
head_two : (xs : List ℕ) (n at : ℕ) → at + 1 < n → two_at (take n xs) at ≡ two_at xs at
head_two xs n at h = rw (get_or-take n xs at 0 (omega arith), get_or-take n xs (at + 1) 0 h) refl

pub returns-then-came-n-clause-took : goal.returns-then-came-n-clause-took
returns-then-came-n-clause-took g c = (_, Consumes-trans _ _ _ _ _ c.fill-got.ensures.bytes c.fill-came.ensures.bytes)

pub returns-clause-took : goal.returns-clause-took
returns-clause-took g c =
    let run = c.fill-got.new.run in
    let four : c.fill-got.result ≡ 4 = omega arith in
    let long : length (take 4 run) ≡ 4 = length-take-le 4 run (omega arith) in
    let low = head_two run 4 0 (omega arith) in
    let high = head_two run 4 2 (omega arith) in
    let bytes = rw four at c.fill-got.ensures.bytes in (
      take 4 run,
      long,
      low ∙ (omega (arith, c.from-length.ensures, c.two_at.ensures)),
      high ∙ sym c.two_at-kind.ensures,
      Consumes-trans _ _ _ _ _ bytes c.fill-came.ensures.bytes,
    )
