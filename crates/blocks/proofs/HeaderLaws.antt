-- The laws of a header. Assumes nothing.
use mathlib.Core.Path.{◌≡◌, refl, ap}
use mathlib.Core.Bool.{Bool, true, false, cond}
use mathlib.Core.List.{List}
use Prim.Native.Nat.{ℕ, ◌+◌, ◌*◌, ◌/◌, ◌%◌, ◌^◌, ◌≤◌}
use native.Mathlib.Nat.{add-zero}
use native.Mathlib.Omega.{arith}
use borrow.Author.Tests.{ne_eqb}
use Rattle.std.proofs.lemmas.Bool.Decides.{nat_tests}
use lib.Bits.{bit_and, and_mask}
use lib.Dec.{eqb}
use lib.ListN.{length, take, drop, length-take, length-drop}
use lib.Seq.{take-take, drop-drop}
use Rattle.bits.specs.Bits.{num, field}
use Rattle.bits.proofs.Bytes.{length_bits_of}
use Rattle.bits.proofs.Numbers.{num_shr, num_low, drop_of_take}
use Rattle.blocks.specs.Widths.{entry_of, width_of}
use Rattle.blocks.specs.Header.{address_width, address_at, to_in, from_in, message_in, width_in, tail_at}
use Rattle.blocks.specs.Header.{fragmented_in, body_of}
use Rattle.blocks.specs.declared.header.Tail.{Tail}
use Rattle.blocks.specs.declared.header.Addressed.{Addressed}

pub address_width_le : (kind : ℕ) → address_width kind ≤ 24
address_width_le kind = grind (arith, nat_tests)

-- an address takes 2 to 26 bits
pub next_le : (at : ℕ) (b : List Bool) {d : Addressed} → d ≡ address_at at b → d.next ≤ at + 26
next_le at b e = rw (ap (λ (d : Addressed). d.next) e) (omega (arith, address_width_le (field at 2 b)))

-- what the code reads, one element after the other: a tail, and a header with its own
pub tail_read : (at : ℕ) (b : List Bool) (mni m w : ℕ) (d s : Addressed) → d ≡ address_at at b
    → s ≡ address_at d.next b
    → mni ≡ field s.next 24 b → m ≡ field (s.next + 24) 5 b → w ≡ width_of (entry_of m) (drop (s.next + 24 + 5) b)
    → record {
      destination = d.address;
      source = s.address;
      mni = mni;
      message = m;
      run = s.next + 24 + 5;
      width = w;
      first = s.next + 24 + 5 + w;
    } ≡ tail_at at b
unfolding width_in message_in from_in to_in
tail_read at b mni m w d s e₁ e₂ e₃ e₄ e₅ = rw (e₅, e₄, e₃, e₂, e₁) refl

-- an address element as 26 bits, its type and the address; where the type is 10, the address is absent
module _ (at : ℕ) (b : List Bool) (x : ℕ) (h : at + 26 ≤ length b) (e : x ≡ field at 26 b) where
  parts : 26 ≡ length (take 26 (drop at b))
  parts = rw (length-take 26 (drop at b), length-drop at b) (omega arith)

  kind_in_lem : x / 2 ^ 24 ≡ field at 2 b
  kind_in_lem = rw (e, num_shr (take 26 (drop at b)) 2 24 parts, take-take 2 26 (drop at b) (omega arith)) refl

  ssi_in : x % 2 ^ 24 ≡ field (at + 2) 24 b
  ssi_in =
      rw (e, num_low (take 26 (drop at b)) 2 24 parts, drop_of_take 2 24 (drop at b), drop-drop 2 at b) refl

  pub address_absent : x / 2 ^ 24 ≡ 2
      → record { address = record { kind = x / 2 ^ 24; ssi = 0 }; next = at + 2 } ≡ address_at at b
  unfolding num
  address_absent k = rw (kind_in_lem, rw kind_in_lem at k, add-zero (at + 2)) refl

  pub address_there : (x / 2 ^ 24 ≡ 2 → ⊥)
      → record { address = record { kind = x / 2 ^ 24; ssi = bit_and x 16777215 }; next = at + 26 } ≡ address_at at b
  address_there k =
      let n : at + 2 + 24 ≡ at + 26 = omega arith in
      rw (and_mask x 24, ssi_in, kind_in_lem, ne_eqb (field at 2 b) 2 (rw kind_in_lem at k), n) refl

-- for `address_at`
pub ruleset addresses = (address_absent, address_there, length_bits_of)

pub body_read : (b : List Bool) (fill f count countdown : ℕ) (t : Tail)
    → fill ≡ field 10 1 b → f ≡ field 11 1 b → count ≡ field 12 (4 * f) b → countdown ≡ field (12 + 4 * f) 2 b
    → t ≡ tail_at (12 + 4 * f + 2) b
    → record { fill = fill; fragmented = f; count = count; countdown = countdown; tail = t } ≡ body_of b
unfolding body_of fragmented_in
body_read b fill f count countdown t e₁ e₂ e₃ e₄ e₅ = rw (e₅, e₄, e₃, e₂, e₁) refl

pub width_le_24 : {w : ℕ} (kind : ℕ) → w ≡ address_width kind → w ≤ 24
width_le_24 kind e = rw e (address_width_le kind)
