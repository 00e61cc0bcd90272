-- A worked example: a block of one byte, 1011 0010, read to its end.
use mathlib.Core.Path.{◌≡◌, refl}
use mathlib.Core.List.{List, [], ◌∷◌}
use Prim.Native.Nat.{ℕ}
use Rattle.bits.specs.Bits.{bit, num, test_bit, bits_n, bits_of}
use Rattle.reader.specs.Reading.{refused_at, made_to, left_of, taken_at, skipped_at}

abbrev block : List ℕ
block = 178 ∷ []

-- Two bits are taken, then three; one is skipped; the last two are taken.
read :
    (taken_at block 0 2 ≡ made_to 2 2)
    × (taken_at block 2 3 ≡ made_to 6 5)
    × (skipped_at block 5 1 ≡ made_to 0 6)
    × (taken_at block 6 2 ≡ made_to 2 8)
unfolding taken_at skipped_at left_of bits_of bits_n test_bit num bit
read = (refl, refl, refl, refl)

-- At the end no bit is left to take or to skip; taking none is no fault. Nine bits are more than the block has, 57 more
-- than one take has.
refused :
    (taken_at block 8 1 ≡ refused_at 1 8)
    × (skipped_at block 8 1 ≡ refused_at 1 8)
    × (taken_at block 8 0 ≡ made_to 0 8)
    × (taken_at block 0 9 ≡ refused_at 1 0)
    × (taken_at block 0 57 ≡ refused_at 13 0)
unfolding taken_at skipped_at left_of num
refused = (refl, refl, refl, refl, refl)
