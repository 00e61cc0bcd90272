-- The laws of a build once its kind and its flags have passed, and of the whole. Assumes nothing.
use mathlib.Core.Path.{◌≡◌, refl, sym, ap, ap₂, ◌∙◌}
use mathlib.Core.Bool.{Bool, true, false}
use mathlib.Core.Logic.{◌⊎◌, inl, inr}
use mathlib.Core.List.{List, [], ◌∷◌, ◌++◌}
use Prim.Native.Nat.{ℕ, zero, suc, ◌+◌, ◌-◌, ◌*◌, ◌≤◌, ◌<◌}
use native.Mathlib.Omega.{arith}
use lib.Dec.{leb}
use lib.ListN.{length, take, length-take}
use borrow.Author.Tests.{leb-true, lt-leb}
use Rattle.bits.specs.Bits.{bits_of}
use Rattle.bits.specs.Layout.{pack, total, parts_with, AllFit, AllNarrow}
use Rattle.bits.proofs.Bytes.{length_bits_of}
use Rattle.store.specs.Store.{handed}
use Rattle.blocks.specs.Faults.{unless, first_of}
use Rattle.blocks.proofs.FaultLaws.{chain_none, chain_given}
use Rattle.transport.proofs.RuleLaws.{kind_holds, flags_hold, fit_holds}
use Rattle.transport.specs.Layouts.{ack_of, per, Shape, shape, layout, at}
use Rattle.transport.specs.Building.{shape_for, data_at, message_bits, length_for, values_for, parts_for, frame_bits}
use Rattle.transport.specs.Building.{checked, built_bits, bits_for, stored_holds, kind_rules, flag_rules, most_for}
use Rattle.transport.specs.Building.{fits, fit_rules, build_fault, Passed, PutsSdu, built_as, fit_fault, out_as}
use Rattle.transport.specs.Building.{sdu_of, out_of}
use Rattle.transport.specs.declared.Message.{Message}
use Rattle.transport.specs.declared.Sdu.{Sdu}
use Rattle.transport.proofs.ElementLaws.{per_le, forward_le}
use Rattle.transport.proofs.ReadLaws.{ack_le}
use Rattle.transport.proofs.BuildLaws.{message_end, fits_all}

-- ---- the layout

pub narrow_layout : (ack addressed kind storage forward : ℕ) → ack ≤ 1 → addressed ≤ 1 → storage ≤ 1
    → AllNarrow (layout (shape ack addressed kind storage forward))
narrow_layout ack addressed kind storage forward a d t =
    let z : (w₁ w₂ w₃ w₄ : ℕ) → w₁ ≤ 11 → w₂ ≤ 11 → w₃ ≤ 11 → w₄ ≤ 11 → per kind w₁ w₂ w₃ w₄ ≤ 11 = per_le 11 kind in
    let w₆ = z 11 11 11 0 (omega arith) (omega arith) (omega arith) (omega arith) in
    let w₇ = z 8 8 8 0 (omega arith) (omega arith) (omega arith) (omega arith) in
    let w₈ = z 4 4 4 0 (omega arith) (omega arith) (omega arith) (omega arith) in
    let w₉ = z 2 0 0 0 (omega arith) (omega arith) (omega arith) (omega arith) in
    let w₁₀ = z 1 0 0 0 (omega arith) (omega arith) (omega arith) (omega arith) in
    let w₁₁ = z 0 1 0 0 (omega arith) (omega arith) (omega arith) (omega arith) in
    let w₁₂ = z 0 2 4 0 (omega arith) (omega arith) (omega arith) (omega arith) in
    let w₁₃ = z 1 1 0 0 (omega arith) (omega arith) (omega arith) (omega arith) in
    let w₁₄ = z 0 0 0 6 (omega arith) (omega arith) (omega arith) (omega arith) in
    let w₁₅ = z 0 8 8 2 (omega arith) (omega arith) (omega arith) (omega arith) in
    let w₁₉ = forward_le forward in
    omega arith

-- the elements' widths add up to where they end
pub total_parts : (ack : ℕ) (m : Message) (n : ℕ) → total (parts_for ack m n) ≡ at 20 (shape_for ack m)
total_parts ack m n = omega arith

-- ---- a message

module _ {ack flag n bytes : ℕ} {m : Message} (k : Passed ack flag m n bytes) where
  abbrev q : Shape
  q = shape_for ack m

  pub data_is : at 7 q ≡ data_at ack m.addressed m.kind
  data_is = let a = k.carried in omega arith

  pub first_is : at 20 q ≡ data_at ack m.addressed m.kind + message_bits m.kind m.storage m.forward
  first_is = let e = message_end q k.least k.most in let d = data_is in omega arith

  pub length_is : let l = message_bits m.kind m.storage m.forward + n in per m.kind l l l 0 ≡ length_for q n
  length_is =
      let l = message_bits m.kind m.storage m.forward in
      let e : l + n ≡ at 20 q - at 7 q + n = let f = message_end q k.least k.most in omega arith in
      ap (λ (x : ℕ). per m.kind x x x 0) e

  pub narrow_message : AllNarrow (layout q)
  narrow_message =
      narrow_layout ack m.addressed m.kind m.storage m.forward k.carried k.addressed k.storage

module _ (ack flag n : ℕ) (m : Message) (user old : List ℕ) (k : Passed ack flag m n (length user))
    {from own l most : ℕ} {ws vs : List ℕ} {fit enough : Bool} {fault : ℕ}
    (ef : from ≡ data_at ack m.addressed m.kind) (eo : own ≡ message_bits m.kind m.storage m.forward)
    (el : l ≡ per m.kind (own + n) (own + n) (own + n) 0) (ew : ws ≡ layout (shape_for ack m))
    (ev : vs ≡ values_for ack m l) (em : most ≡ most_for ack flag) (et : fit ≡ fits (parts_with ws vs))
    (en : enough ≡ leb (from + own + n + 32 * flag) (8 * length old))
    (er : fault ≡ first_of (fit_rules l most fit enough)) where
  abbrev shaped : Shape
  shaped = shape_for ack m

  first : from + own ≡ at 20 shaped
  first = rw (ef, eo) (sym (first_is k))

  indicated : l ≡ length_for shaped n
  indicated = el ∙ rw eo (length_is k)

  parts_are : parts_with ws vs ≡ parts_for ack m n
  parts_are = ap₂ parts_with ew (ev ∙ ap (values_for ack m) indicated)

  fault_is : fault ≡ fit_fault ack flag m n (length old)
  fault_is =
      er
      ∙ ap₂ (λ (x : ℕ) (y : ℕ). first_of (fit_rules x y fit enough)) indicated em
      ∙ ap₂ (λ (x : Bool) (y : Bool). first_of (fit_rules (length_for shaped n) (most_for ack flag) x y))
      (et ∙ ap fits parts_are) (en ∙ ap (λ (x : ℕ). leb (x + n + 32 * flag) (8 * length old)) first)

  refused_when : (f : ℕ) (b : List Bool) (bits : ℕ) → (f ≡ 0 → ⊥)
      → (record { fault = f; bits = 0 } ≡ built_as f bits) × (old ≡ out_as f b old)
  refused_when zero b bits h = absurd (h refl)
  refused_when (suc f) b bits h = (refl, refl)

  pub message_refused : (fault ≡ 0 → ⊥) → let f = fit_fault ack flag m n (length old) in
      (record { fault = fault; bits = 0 } ≡ built_as f (at 20 shaped + n + 32 * flag))
      × (old ≡ out_as f (checked flag (frame_bits ack m (take n (bits_of user)))) old)
  message_refused h =
      rw fault_is
      (refused_when (fit_fault ack flag m n (length old)) (checked flag (frame_bits ack m (take n (bits_of user))))
      (at 20 shaped + n + 32 * flag) (rw fault_is at h))

  first_near : from + own ≤ 256
  first_near =
      let a = k.carried in
      let b = k.addressed in
      let c = k.storage in
      let d = per_le 11 m.kind 11 11 11 0 (omega arith) (omega arith) (omega arith) (omega arith) in
      let e = per_le 32 m.kind 24 32 32 16 (omega arith) (omega arith) (omega arith) (omega arith) in
      let f = forward_le m.forward in
      omega (arith, ef, eo)

  module _ (z : fault ≡ 0) where
    passed : fit_fault ack flag m n (length old) ≡ 0
    passed = sym fault_is ∙ z

    pub puts : PutsSdu ws vs user (from + own) n flag old
    puts =
        let s = fit_holds l most fit enough (sym er ∙ z) in
        let f : AllFit (parts_with ws vs) = fits_all (parts_with ws vs) (sym et ∙ s.fits) in
        let room = leb-true (from + own + n + 32 * flag) (8 * length old) (sym en ∙ s.room) in
        let e = first in
        record {
          paired = rw (ew, ev) refl;
          narrow = rw ew (narrow_message k);
          fit = f;
          elements = ap total parts_are ∙ total_parts ack m n ∙ sym first;
          near = first_near;
          flagged = k.flagged;
          short = k.short;
          lent = k.lent;
          room = room;
        }

    pub message_built : {new : List ℕ}
        → new ≡ handed (checked flag (pack (parts_with ws vs) ++ take n (bits_of user))) old
        → let f = fit_fault ack flag m n (length old) in
        (record { fault = 0; bits = from + own + n + 32 * flag } ≡ built_as f (at 20 shaped + n + 32 * flag))
        × (new ≡ out_as f (checked flag (frame_bits ack m (take n (bits_of user)))) old)
    unfolding frame_bits
    message_built e =
        let h = k.lent in
        let n_is : length (take n (bits_of user)) ≡ n =
        rw (length-take n (bits_of user)) (omega (arith, length_bits_of user)) in
        rw (passed, first, n_is) (refl, e ∙ rw parts_are refl)

-- ---- the whole

-- a kind that is none of the four
third : (t₁ t₂ : Bool) (n : ℕ) (ns : List ℕ) → first_of (unless t₁ (suc n) ∷ unless t₂ (suc n) ∷ suc n ∷ ns) ≡ suc n
third false t₂ n ns = refl
third true false n ns = refl
third true true n ns = refl

fourth : (t₁ t₂ t₃ : Bool) (n : ℕ) (ns : List ℕ)
    → first_of (unless t₁ (suc n) ∷ unless t₂ (suc n) ∷ unless t₃ (suc n) ∷ suc n ∷ ns) ≡ suc n
fourth false t₂ t₃ n ns = refl
fourth true t₂ t₃ n ns = third t₂ t₃ n ns

none_of_four : (carrier a kind least protocol : ℕ) (stored : Bool) → (kind ≡ 0) ⊎ (4 < kind)
    → first_of (kind_rules carrier (a + 1) kind least protocol stored) ≡ 21
none_of_four carrier a kind least protocol stored (inl e) =
    rw (lt-leb (a + 1) kind (omega arith))
    (third (leb 22 carrier) (leb carrier 24) 20
    (unless (leb kind 4) 21 ∷ unless (leb least protocol) 21 ∷ unless stored 21 ∷ []))
none_of_four carrier a kind least protocol stored (inr h) =
    rw (lt-leb kind 4 h)
    (fourth (leb 22 carrier) (leb carrier 24) (leb (a + 1) kind) 20
    (unless (leb least protocol) 21 ∷ unless stored 21 ∷ []))

module _ (carrier flag n : ℕ) (m : Message) (user old : List ℕ) {ack w kf : ℕ} {stored : Bool}
    (ea : ack ≡ ack_of carrier) (ew : w ≡ per m.kind 128 128 128 0)
    (es : stored ≡ stored_holds m.kind m.storage m.forward)
    (ek : kf ≡ first_of (kind_rules carrier (ack + 1) m.kind w m.protocol stored)) where
  abbrev kinds : List ℕ
  kinds =
      kind_rules carrier (ack_of carrier + 1) m.kind (per m.kind 128 128 128 0) m.protocol
      (stored_holds m.kind m.storage m.forward)

  abbrev flags : List ℕ
  flags = flag_rules flag m.addressed m.storage n (per m.kind 2047 2047 0 0) (leb n (8 * length user))

  abbrev rest : List ℕ
  rest =
      let a = ack_of carrier in
      fit_rules (length_for (shape_for a m) n) (most_for a flag) (fits (parts_for a m n))
      (leb (bits_for carrier flag m n) (8 * length old))

  abbrev built : List Bool
  built = built_bits carrier flag m (take n (bits_of user))

  -- what a fault comes to
  abbrev pub Answers : ℕ → List ℕ → Type 0
  Answers f new =
      (record { fault = f; bits = 0 } ≡ sdu_of carrier flag m n (length user) (length old))
      × (new ≡ out_of carrier flag m n user old)

  refused_with_lem : (f g : ℕ) (bits : ℕ) (b : List Bool) → f ≡ g → (f ≡ 0 → ⊥)
      → (record { fault = f; bits = 0 } ≡ built_as g bits) × (old ≡ out_as g b old)
  refused_with_lem zero g bits b e h = absurd (h refl)
  refused_with_lem (suc f) g bits b e h = rw (← e) (refl, refl)

  kind_fault : kf ≡ first_of kinds
  kind_fault = ek ∙ rw (ea, ew, es) refl

  pub build_kind : (kf ≡ 0 → ⊥) → Answers kf old
  unfolding sdu_of out_of build_fault
  build_kind h =
      refused_with_lem kf (first_of (kinds ++ (flags ++ rest))) (bits_for carrier flag m n) built
      (kind_fault ∙ sym (chain_given kinds (flags ++ rest) (rw kind_fault at h))) h

  module _ {most ff : ℕ} {lent : Bool} (zk : kf ≡ 0) (ep : most ≡ per m.kind 2047 2047 0 0)
      (el : lent ≡ leb n (8 * length user))
      (eg : ff ≡ first_of (flag_rules flag m.addressed m.storage n most lent)) where
    flag_fault : ff ≡ first_of flags
    flag_fault = eg ∙ rw (ep, el) refl

    past_kinds : first_of (kinds ++ (flags ++ rest)) ≡ first_of (flags ++ rest)
    past_kinds = chain_none kinds (flags ++ rest) (sym kind_fault ∙ zk)

    pub build_flags : (ff ≡ 0 → ⊥) → Answers ff old
    unfolding sdu_of out_of build_fault
    build_flags h =
        refused_with_lem ff (first_of (kinds ++ (flags ++ rest))) (bits_for carrier flag m n) built
        (flag_fault ∙ sym (past_kinds ∙ chain_given flags rest (rw flag_fault at h))) h

    module _ (zf : ff ≡ 0) where
      pub build_passed : Passed ack flag m n (length user)
      build_passed =
          let j = m.kind in
          let o = stored_holds j m.storage m.forward in
          let s =
          kind_holds carrier (ack_of carrier + 1) j (per j 128 128 128 0) m.protocol o (sym kind_fault ∙ zk) in
          let c = per j 2047 2047 0 0 in
          let t = flags_hold flag m.addressed m.storage n c (leb n (8 * length user)) (sym flag_fault ∙ zf) in
          let lowest : ack_of carrier + 1 ≤ m.kind = s.first in
          let p = per_le 2047 m.kind 2047 2047 0 0 (omega arith) (omega arith) (omega arith) (omega arith) in
          let few : n ≤ per m.kind 2047 2047 0 0 = t.few in
          record {
            carried = ack_le carrier ea;
            least = omega arith;
            most = s.last;
            flagged = t.flagged;
            addressed = t.addressed;
            storage = t.storage;
            short = omega arith;
            lent = leb-true n (8 * length user) t.there;
          }

      past_flags : first_of (kinds ++ (flags ++ rest)) ≡ first_of rest
      past_flags = past_kinds ∙ chain_none flags rest (sym flag_fault ∙ zf)

      pub build_rest : {r : Sdu} {new : List ℕ} → let f = fit_fault ack flag m n (length old) in
          r ≡ built_as f (at 20 (shape_for ack m) + n + 32 * flag)
          → new ≡ out_as f (checked flag (frame_bits ack m (take n (bits_of user)))) old
          → (r ≡ sdu_of carrier flag m n (length user) (length old)) × (new ≡ out_of carrier flag m n user old)
      unfolding sdu_of out_of build_fault built_bits
      build_rest e₁ e₂ = rw past_flags (e₁ ∙ rw ea refl, e₂ ∙ rw ea refl)

pub build_none : (carrier flag n : ℕ) (m : Message) (user old : List ℕ) → (m.kind ≡ 0) ⊎ (4 < m.kind)
    → (record { fault = 21; bits = 0 } ≡ sdu_of carrier flag m n (length user) (length old))
    × (old ≡ out_of carrier flag m n user old)
build_none carrier flag n m user old h =
    let a = ack_of carrier in
    let w = per m.kind 128 128 128 0 in
    let o = stored_holds m.kind m.storage m.forward in
    build_kind carrier flag n m user old refl refl refl (sym (none_of_four carrier a m.kind w m.protocol o h))
    (λ z. omega arith)
