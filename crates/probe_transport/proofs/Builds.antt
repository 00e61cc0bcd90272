-- The laws of a build's line. Assumes nothing.
use mathlib.Core.Path.{◌≡◌, refl}
use mathlib.Core.List.{List}
use Prim.Native.Nat.{ℕ, zero, suc, ◌+◌, ◌-◌, ◌*◌, ◌/◌, ◌≤◌}
use native.Mathlib.Omega.{arith}
use lib.Dec.{leb}
use lib.ListN.{length, take, drop}
use borrow.Author.Tests.{leb-true}
use Rattle.blocks.proofs.FaultLaws.{all_zero, holds}
use Rattle.transport.specs.Building.{bits_for, build_checks, build_fault, built_as, sdu_of, out_of}
use Rattle.transport.specs.declared.Message.{Message}
use Rattle.transport.specs.declared.Sdu.{Sdu}
use Rattle.lines.specs.Lines.{Stands}
use Rattle.probe_transport.specs.Body.{carrier_in, flag_in, message_in, user_bits_in}
use Rattle.probe_transport.specs.Calls.{written_by, sdu_text, built_text}
use Rattle.probe_transport.proofs.Saying.{rest_lent}

-- the bytes of so many bits
bytes_inside : (b lent : ℕ) → b ≤ 8 * lent → (b + 7) / 8 ≤ lent
bytes_inside b lent h = omega arith

-- what is built fits its output
built_inside : (c f : ℕ) (m : Message) (n bytes lent : ℕ) → build_fault c f m n bytes lent ≡ 0
    → bits_for c f m n ≤ 8 * lent
unfolding build_fault
built_inside c f m n bytes lent e =
    let z = all_zero (build_checks c f m n bytes lent) e in
    let enough = leb (bits_for c f m n) (8 * lent) in
    leb-true (bits_for c f m n) (8 * lent) (holds enough 0 z.1.1.1.1.1.1.1.1.1.1.1.1.1.0)

-- and so does what was written
pub written_inside : (c f : ℕ) (m : Message) (n bytes lent : ℕ) → written_by (sdu_of c f m n bytes lent) ≤ lent
unfolding sdu_of
written_inside c f m n bytes lent = inside_when (build_fault c f m n bytes lent) refl
  where
    inside_when : (x : ℕ) → build_fault c f m n bytes lent ≡ x → written_by (built_as x (bits_for c f m n)) ≤ lent
    inside_when zero e = bytes_inside (bits_for c f m n) lent (built_inside c f m n bytes lent e)
    inside_when (suc x) e = omega arith

pub built_said : (old body out : List ℕ) {new after : List ℕ} {m : Message} {b : Sdu} {n r : ℕ} → m ≡ message_in body
    → n ≡ user_bits_in body
    → let u = take (length body - 35) (drop 35 body) in
    b ≡ sdu_of (carrier_in body) (flag_in body) m n (length u) (length out)
    → after ≡ out_of (carrier_in body) (flag_in body) m n u out
    → Stands old (sdu_text b after) new r → Stands old (built_text body out) new r
unfolding built_text
built_said old body out p q e z w = rw (e, z, p, q, rest_lent 35 body) at w
