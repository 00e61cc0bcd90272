-- The output of a build, from its writes. Assumes nothing.
use mathlib.Core.Path.{◌≡◌, refl, sym, ap, ◌∙◌}
use mathlib.Core.Bool.{Bool}
use mathlib.Core.List.{List, ◌++◌}
use Prim.Native.Nat.{ℕ, zero, suc, ◌+◌, ◌*◌}
use native.Mathlib.Nat.{zero-add}
use native.Mathlib.Omega.{arith}
use lib.ListN.{length, take, drop, length-append, length-take}
use lib.Seq.{take-take}
use Rattle.bits.specs.Bits.{bits_of, over, AllBytes}
use Rattle.bits.specs.Layout.{pack}
use Rattle.bits.proofs.Bytes.{length_bits_of}
use Rattle.bits.proofs.Over.{over_over, bytes_written}
use Rattle.blocks.specs.Sync.{sync_parts}
use Rattle.blocks.specs.Slots.{in_header}
use Rattle.build.specs.Plan.{header_bits, fragmented_for, blocks_for, build_fault, Planned, plan_as, planned_of}
use Rattle.build.specs.Build.{header_block, continuation_blocks, built_bits, built_bytes, built_as, build_of, out_as}
use Rattle.build.specs.Build.{out_of}
use Rattle.blocks.specs.declared.sync.Sync.{Sync}
use Rattle.blocks.specs.declared.header.Fields.{Fields}
use Rattle.build.proofs.BuiltLaws.{length_sync, front_length, built_length}
use Rattle.build.proofs.RangeLaws.{InRange, in_range, inside_le}

-- the plan's fault is the build's
pub plan_fault : (f h n : ℕ) → (plan_as f h n).fault ≡ f
plan_fault zero h n = refl
plan_fault (suc f) h n = refl

-- and so is the answer's
pub built_fault : (f k : ℕ) → (built_as f k).fault ≡ f
built_fault zero k = refl
built_fault (suc f) k = refl

module _ (y : Sync) (countdown : ℕ) (g : Fields) (n : ℕ) (message old : List ℕ) where
  abbrev fault : ℕ
  fault = build_fault y countdown g n (length message) (length old)

  module _ {p : Planned} (q : p ≡ planned_of y countdown g n (length message) (length old)) where
    fault_is : p.fault ≡ fault
    unfolding planned_of
    fault_is = ap (λ (x : Planned). x.fault) q ∙ plan_fault fault (header_bits g) n

    -- refused, the build is refused for the same, and nothing is written
    pub refused_build : (p.fault ≡ 0 → ⊥)
        → (record { fault = p.fault; blocks = 0 } ≡ build_of y countdown g n (length message) (length old))
        × (old ≡ out_of y countdown g n message old)
    unfolding build_of out_of
    refused_build h = rw fault_is (refused_when fault (rw fault_is at h))
      where
        refused_when : (f : ℕ) → (f ≡ 0 → ⊥)
            → (record { fault = f; blocks = 0 } ≡ built_as f (blocks_for g n))
            × (old ≡ out_as f (built_bytes y countdown g (take n (bits_of message))) old)
        refused_when zero h = absurd (h refl)
        refused_when (suc f) h = (refl, refl)

    module _ (z : p.fault ≡ 0) where
      no_fault : fault ≡ 0
      no_fault = sym fault_is ∙ z

      pub range : InRange y countdown g n (length message) (length old)
      range = in_range y countdown g n (length message) (length old) no_fault

      -- the plan is the layout's
      pub planned : (p.fragmented ≡ fragmented_for g n) × (p.inside ≡ in_header (header_bits g) n)
          × (p.blocks ≡ blocks_for g n)
      unfolding planned_of
      planned = let e = q ∙ ap (λ (f : ℕ). plan_as f (header_bits g) n) no_fault in
          (ap (λ (x : Planned). x.fragmented) e, ap (λ (x : Planned). x.inside) e, ap (λ (x : Planned). x.blocks) e)

      abbrev m : List Bool
      m = take n (bits_of message)

      all_lent : length m ≡ n
      all_lent =
          let l = range.elements.lent in rw (length-take n (bits_of message)) (omega (arith, length_bits_of message))

      -- the same of the message's own bits
      whole : InRange y countdown g (length m) (length message) (length old)
      whole = rw all_lent range

      abbrev i : ℕ
      i = in_header (header_bits g) n

      abbrev header : List Bool
      header = header_block (fragmented_for g n) (blocks_for g n) countdown g (take i (bits_of message))

      abbrev blocks : List Bool
      blocks = continuation_blocks (blocks_for g n) (drop i m)

      whole_bits : built_bits y countdown g m ≡ (pack (sync_parts y) ++ header) ++ blocks
      unfolding built_bits
      whole_bits = rw (all_lent, take-take i n (bits_of message) (inside_le range)) refl

      length_front : length (pack (sync_parts y) ++ header) ≡ 192
      length_front = rw (all_lent, take-take i n (bits_of message) (inside_le range)) at (front_length m whole)

      length_all : length ((pack (sync_parts y) ++ header) ++ blocks) ≡ 8 * (24 + 34 * blocks_for g n)
      length_all = rw (whole_bits, all_lent) at (built_length m whole)

      pub built_build : (b₁ b₂ : List Bool) (new : List ℕ) → b₁ ≡ over 0 (pack (sync_parts y)) (bits_of old)
          → b₂ ≡ over 64 header b₁ → bits_of new ≡ over 192 blocks b₂
          → AllBytes old → AllBytes new
          → (record { fault = 0; blocks = blocks_for g n } ≡ build_of y countdown g n (length message) (length old))
          × (new ≡ out_of y countdown g n message old)
      unfolding build_of out_of
      built_build b₁ b₂ new e₁ e₂ e₃ ho hn =
          let s = pack (sync_parts y) in
          let ls = length_sync y in
          let lh = length_front in
          let lo = length_bits_of old in
          let room = range.blocks.room in
          let lw = length_all in
          let lb : length ((s ++ header) ++ blocks) ≡ length (s ++ header) + length blocks =
          length-append (s ++ header) blocks in
          let two : over 64 header (over 0 s (bits_of old)) ≡ over 0 (s ++ header) (bits_of old) =
          ap (λ (x : ℕ). over x header (over 0 s (bits_of old))) (sym ls ∙ sym (zero-add (length s)))
          ∙ over_over 0 s header (bits_of old) (omega (arith, length-append s header)) in
          let three : over 192 blocks (over 0 (s ++ header) (bits_of old))
          ≡ over 0 ((s ++ header) ++ blocks) (bits_of old) =
          ap (λ (x : ℕ). over x blocks (over 0 (s ++ header) (bits_of old)))
          (sym lh ∙ sym (zero-add (length (s ++ header))))
          ∙ over_over 0 (s ++ header) blocks (bits_of old) (omega arith) in
          let w : bits_of new ≡ over 0 ((s ++ header) ++ blocks) (bits_of old) =
          e₃ ∙ rw (e₂, e₁) (ap (over 192 blocks) two ∙ three) in
          rw (no_fault, whole_bits, all_lent)
          (refl, bytes_written (24 + 34 * blocks_for g n) ((s ++ header) ++ blocks) old new lw ho hn w)
