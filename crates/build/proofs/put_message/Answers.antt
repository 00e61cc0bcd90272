-- What `planned` has shown is what each block asks for; the blocks together are the output.
use Rattle.std.proofs.Common.{rules}
use Rattle.std.specs.Prelude.{Err}
use mathlib.Core.Path.{◌≡◌, refl}
use native.Mathlib.Omega.{arith}
use mathlib.Core.Bool.{cond}
use lib.ListN.{length}
use Rattle.bits.specs.Bits.{bits_of}
use Rattle.bits.proofs.Bytes.{all_bytes}
use Rattle.blocks.proofs.FaultLaws.{no_zero}
use Rattle.blocks.specs.Slots.{in_header}
use Rattle.build.specs.Plan.{header_bits, fragmented_for, blocks_for}
use Rattle.build.proofs.RangeLaws.{InRange, sync_fits, header_fits, inside_le, n_small}
use Rattle.build.proofs.OutputLaws.{range, planned, refused_build, built_build}
use Rattle.build.proofs.put_message.Goals as goal
use Rattle.build.proofs.put_message.Goals.{In_ok-plan}

pub returns-in_err-plan : goal.returns-in_err-plan
returns-in_err-plan c =
    let a = c.args in
    let f = c.in_err-plan.field-0.0 in
    let e : c.from_residual.result ≡ Err f = search rules in
    let r = refused_build a.sync a.countdown a.fields a.n a.message.now a.out.now c.in_err-plan.ensures (no_zero f) in
    record { answer = rw e r.0; output = r.1 }

-- what the rules have shown
passed : (c : In_ok-plan) → let a = c.args in
    InRange a.sync a.countdown a.fields a.n (length a.message.now) (length a.out.now)
passed c =
    let a = c.args in
    range a.sync a.countdown a.fields a.n a.message.now a.out.now c.in_ok-plan.ensures refl

-- what was planned
laid : (c : In_ok-plan) → let a = c.args in
    let p = c.in_ok-plan.plan in
    (cond p.fragmented 1 0 ≡ fragmented_for a.fields a.n) × (p.inside ≡ in_header (header_bits a.fields) a.n)
    × (p.blocks ≡ blocks_for a.fields a.n)
laid c =
    let a = c.args in
    planned a.sync a.countdown a.fields a.n a.message.now a.out.now c.in_ok-plan.ensures refl

pub put_sync-requires : goal.put_sync-requires
put_sync-requires c =
    let k = passed (goal.at.put_sync-requires c).In_ok-plan in
    record { fits = sync_fits k; room = omega (arith, k.blocks.room) }

pub put_header-requires : goal.put_header-requires
put_header-requires c =
    let k = passed (goal.at.put_header-requires c).In_ok-plan in
    let p = laid (goal.at.put_header-requires c).In_ok-plan in
    let l = inside_le k in
    let s = n_small k in record {
      fits = rw (p.0, p.1, p.2) (header_fits k);
      lent = omega (arith, p.1, k.elements.lent);
      room = omega (arith, k.blocks.room, c.put_sync.auto);
    }

pub put_blocks-requires : goal.put_blocks-requires
put_blocks-requires c =
    let k = passed (goal.at.put_blocks-requires c).In_ok-plan in
    let p = laid (goal.at.put_blocks-requires c).In_ok-plan in
    let l = inside_le k in
    let s = n_small k in record {
      bits = omega (arith, p.1);
      lent = omega (arith, k.elements.lent);
      count = omega (arith, p.2, k.blocks.count);
      room = omega (arith, p.2, k.blocks.room, c.put_sync.auto, c.put_header.auto);
    }

pub returns : goal.returns
returns c =
    let a = c.args in
    let p = laid (goal.at.returns c).In_ok-plan in
    let o = c.put_blocks.new.out in
    let b = built_build a.sync a.countdown a.fields a.n a.message.now a.out.now c.in_ok-plan.ensures refl
    (bits_of c.put_sync.new.out) (bits_of c.put_header.new.out) o c.put_sync.ensures
    (rw (p.0, p.1, p.2) at c.put_header.ensures)
    (rw (p.1, p.2) at c.put_blocks.ensures)
    (all_bytes a.out.now (λ j. ((goal.at.returns c).In_ok-plan.type_inv.out j).fits))
    (all_bytes o (λ j. (c.type_inv.out j).fits)) in
    record { answer = rw p.2 b.0; output = b.1 }
