-- The examples hold, by computation: a test over the whole table. Assumes nothing.
use mathlib.Core.Path.{◌≡◌, refl, ap₂}
use mathlib.Core.Bool.{Bool, true, false, ◌&&◌}
use mathlib.Core.List.{List, [], ◌∷◌}
use Prim.Native.Nat.{ℕ}
use lib.Dec.{eqb, T, eqb→eq}
use Rattle.bits.specs.Bits.{bit, num, bits_n, bits_of, bytes_n, test_bit}
use Rattle.bits.specs.Fill.{strip, before, filled, fill_bits}
use Rattle.bits.proofs.Tests.{both}
use Rattle.blocks.specs.Widths.{entry_of, width_of, run_fits}
use Rattle.blocks.specs.Sync.{sync_of, sync_checks}
use Rattle.blocks.specs.Header.{fragmented_in, to_in, from_in, message_in, width_in, body_of, read_header}
use Rattle.blocks.specs.Slots.{due_of}
use Rattle.build.specs.Plan.{plan_of, build_fault}
use Rattle.build.specs.Build.{built_bits, build_of}
use Rattle.demands.specs.Examples.{Example, examples, builds, AllHold}

abbrev same : List ℕ → List ℕ → Bool
same [] [] = true
same [] (y ∷ ys) = false
same (x ∷ xs) [] = false
same (x ∷ xs) (y ∷ ys) = eqb x y && same xs ys

abbrev pub agree : List Example → Bool
agree [] = true
agree (e ∷ es) = same e.given e.stated && agree es

is_same : (xs ys : List ℕ) → T (same xs ys) → xs ≡ ys
is_same [] [] t = refl
is_same [] (y ∷ ys) t = absurd t
is_same (x ∷ xs) [] t = absurd t
is_same (x ∷ xs) (y ∷ ys) t =
    let p = both (eqb x y) (same xs ys) t in
    ap₂ ◌∷◌ (eqb→eq x y p.0) (is_same xs ys p.1)

pub hold : (es : List Example) → T (agree es) → AllHold es
hold [] t = tt
hold (e ∷ es) t =
    let p = both (same e.given e.stated) (agree es) t in
    (is_same e.given e.stated p.0, hold es p.1)

pub examples_hold : AllHold examples
unfolding plan_of due_of strip before bit num bits_n test_bit bytes_n filled fill_bits
examples_hold = hold examples tt

pub builds_hold : AllHold builds
unfolding build_of build_fault run_fits entry_of width_of built_bits read_header sync_checks sync_of body_of
    fragmented_in to_in from_in message_in width_in strip before bit num bits_n bits_of test_bit bytes_n filled
    fill_bits
builds_hold = hold builds tt
