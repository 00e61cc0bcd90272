-- A header that reads well reads the same in a report of its own slot. Assumes nothing.
use mathlib.Core.Path.{◌≡◌, refl, sym, ap, ◌∙◌}
use mathlib.Core.Bool.{Bool}
use mathlib.Core.List.{List, [], ◌∷◌, ◌++◌}
use Prim.Native.Nat.{ℕ, zero, suc, ◌+◌}
use borrow.Author.Tests.{eq-eqb}
use Rattle.bits.specs.Bits.{bits_of}
use Rattle.blocks.specs.Faults.{first_of}
use Rattle.blocks.specs.Sync.{sync_of, sync_checks}
use Rattle.blocks.specs.Header.{body_checks, place_rules, header_fault, header_of, answered, read_header, read_reported}
use Rattle.blocks.specs.declared.sync.Sync.{Sync}
use Rattle.blocks.specs.declared.header.Header.{Header}
use Rattle.blocks.proofs.FaultLaws.{chain_none}

between : (a p b : List ℕ) → first_of (a ++ b) ≡ 0 → first_of p ≡ 0 → first_of (a ++ (p ++ b)) ≡ 0
between [] p b e z = chain_none p b z ∙ e
between (zero ∷ ns) p b e z = between ns p b e z
between (suc n ∷ ns) p b e z = e

fault_of : (n : ℕ) (y : Sync) (b : List Bool) → (answered n (header_of y b)).fault ≡ n
fault_of zero y b = refl
fault_of (suc n) y b = refl

module _ (s h : List ℕ) (good : (read_header s h).fault ≡ 0) where
  no_fault : header_fault s h ≡ 0
  unfolding read_header
  no_fault = sym (fault_of (header_fault s h) (sync_of (bits_of s)) (bits_of h)) ∙ good

  pub read_as : read_header s h ≡ header_of (sync_of (bits_of s)) (bits_of h)
  unfolding read_header
  read_as = ap (λ (n : ℕ). answered n (header_of (sync_of (bits_of s)) (bits_of h))) no_fault

  pub reported_reads : (frame slot : ℕ) → (read_header s h).sync.frame ≡ frame → (read_header s h).sync.slot + 1 ≡ slot
      → read_reported frame slot s h ≡ read_header s h
  unfolding read_reported
  reported_reads frame slot ef es =
      let y = sync_of (bits_of s) in
      let ef' = eq-eqb y.frame frame (ap (λ (r : Header). r.sync.frame) (sym read_as) ∙ ef) in
      let es' = eq-eqb (y.slot + 1) slot (ap (λ (r : Header). r.sync.slot + 1) (sym read_as) ∙ es) in
      ap (λ (n : ℕ). answered n (header_of y (bits_of h)))
      (between (sync_checks s h) (place_rules frame slot y) (body_checks (bits_of h)) no_fault (rw (ef', es') refl))
      ∙ sym read_as
