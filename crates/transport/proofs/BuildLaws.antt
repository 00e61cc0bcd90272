-- The laws of building a DM-SDU. Assumes nothing.
use mathlib.Core.Path.{◌≡◌, refl, sym, ap, ap₂, ◌∙◌}
use mathlib.Core.Bool.{Bool, true, false, cond, ◌&&◌}
use mathlib.Core.List.{List, [], ◌∷◌, ◌++◌}
use Prim.Native.Nat.{ℕ, zero, suc, ◌+◌, ◌-◌, ◌*◌, ◌/◌, ◌%◌, ◌^◌, ◌≤◌, ◌<◌}
use native.Mathlib.Nat.{zero-add}
use native.Mathlib.Omega.{arith}
use lib.Dec.{eqb, ltb}
use lib.ListN.{length, take, drop, replicate, get_or, length-append}
use lib.ListN.{length-replicate, take-append-drop}
use lib.Seq.{drop-cons, drop-length, length-take-le}
use borrow.Author.Tests.{le-ltb, lt-ltb, ltb-true, eqb-true, eqb-false, eq-eqb, ne_eqb}
use Rattle.bits.specs.Bits.{num, bits_n, bits_of, bytes_n, over, AllBytes}
use Rattle.bits.specs.Layout.{Part, parts_with, AllFit, AllNarrow}
use Rattle.bits.proofs.Numbers.{ones_of}
use Rattle.bits.proofs.Bytes.{length_bits_of}
use Rattle.bits.proofs.Over.{over_over, over_read, over_drop, bytes_written}
use Rattle.store.specs.Store.{message_bytes, handed}
use Rattle.store.proofs.Messages.{message_filled}
use Rattle.fcs.specs.Annex.{fcs_of}
use Rattle.fcs.proofs.Annex.{length_fcs, fcs_bits}
use Rattle.transport.specs.Layouts.{per, Shape, at}
use Rattle.transport.specs.Building.{fits, checked, message_bits, stored_holds}
use Rattle.transport.specs.Reading.{direct}

-- ---- numbers that fit

-- the numbers from place i on are left to be looked at
abbrev pub LeftFit : List ℕ → List ℕ → ℕ → Type 0
LeftFit ws vs i = fits (parts_with ws vs) ≡ fits (parts_with (drop i ws) (drop i vs))

narrow_at : (ws : List ℕ) (i : ℕ) → AllNarrow ws → get_or ws i 0 ≤ 56
narrow_at [] i n = omega arith
narrow_at (w ∷ ws) zero n = n.0
narrow_at (w ∷ ws) (suc i) n = narrow_at ws i n.1

pub narrow_in : {w : ℕ} (ws : List ℕ) (i : ℕ) → AllNarrow ws → w ≡ get_or ws i 0 → w ≤ 56
narrow_in ws i n e = rw e (narrow_at ws i n)

module _ (ws vs : List ℕ) (i : ℕ) {w : ℕ} (h : i < length ws) (l : length ws ≡ length vs) (n : AllNarrow ws)
    (e : w ≡ get_or ws i 0) (s : LeftFit ws vs i) where
  next_is : fits (parts_with ws vs) ≡ (ltb (get_or vs i 0) (2 ^ w) && fits (parts_with (drop (suc i) ws) (drop
      (suc i) vs)))
  next_is =
      rw e (s ∙ ap₂ (λ (a b : List ℕ). fits (parts_with a b)) (drop-cons ws i 0 h) (drop-cons vs i 0 (omega arith)))

  -- as the code shifts
  shifted : 1 * 2 ^ w % 2 ^ 64 ≡ 2 ^ w
  shifted = let k = narrow_in ws i n e in ones_of w (omega arith)

  pub too_large : 1 * 2 ^ w % 2 ^ 64 ≤ get_or vs i 0 → false ≡ fits (parts_with ws vs)
  too_large k = sym (next_is ∙ rw (le-ltb (get_or vs i 0) (2 ^ w) (rw shifted at k)) refl)

  pub fits_next : get_or vs i 0 < 1 * 2 ^ w % 2 ^ 64 → LeftFit ws vs (i + 1)
  fits_next k = next_is ∙ rw (lt-ltb (get_or vs i 0) (2 ^ w) (rw shifted at k), one_more) refl
    where
      one_more : i + 1 ≡ suc i
      one_more = omega arith

pub fits_end : (ws vs : List ℕ) (i : ℕ) → length ws ≤ i → i ≤ length ws → LeftFit ws vs i
    → true ≡ fits (parts_with ws vs)
fits_end ws vs i a b s =
    let e : i ≡ length ws = omega arith in
    sym
    (s
    ∙ ap (λ (j : ℕ). fits (parts_with (drop j ws) (drop j vs))) e
    ∙ ap (λ (x : List ℕ). fits (parts_with x (drop (length ws) vs))) (drop-length ws))

both : (a b : Bool) → (a && b) ≡ true → (a ≡ true) × (b ≡ true)
both true b e = (refl, e)
both false b e = let z : ◌≡◌ {A = ℕ} 0 1 = ap (λ (t : Bool). cond t 1 0) e in absurd (omega arith)

-- the test says what it tests
pub fits_all : (ps : List Part) → fits ps ≡ true → AllFit ps
fits_all [] e = tt
fits_all (p ∷ ps) e =
    let t = both (ltb p.value (2 ^ p.width)) (fits ps) e in
    (ltb-true p.value (2 ^ p.width) t.0, fits_all ps t.1)

pub all_fits : (ps : List Part) → AllFit ps → fits ps ≡ true
all_fits [] h = refl
all_fits (p ∷ ps) h = rw (lt-ltb p.value (2 ^ p.width) h.0, all_fits ps h.1) refl

-- ---- where the elements end

per_sum : (kind : ℕ) (t₁ t₂ t₃ t₄ : Bool) → eqb kind 1 ≡ t₁ → eqb kind 2 ≡ t₂ → eqb kind 3 ≡ t₃ → eqb kind 4 ≡ t₄
    → 1 ≤ kind → kind ≤ 4
    → let of : ℕ → ℕ → ℕ → ℕ → ℕ = λ a b c d. cond t₁ a (cond t₂ b (cond t₃ c (cond t₄ d 0))) in
    of 8 8 8 0 + of 4 4 4 0 + of 2 0 0 0 + of 1 0 0 0 + of 0 1 0 0 + of 0 2 4 0 + of 1 1 0 0 + of 0 0 0 6 + of 0 8 8 2
    + 8
    ≡ of 24 32 32 16
per_sum kind true t₂ t₃ t₄ e₁ e₂ e₃ e₄ l h = refl
per_sum kind false true t₃ t₄ e₁ e₂ e₃ e₄ l h = refl
per_sum kind false false true t₄ e₁ e₂ e₃ e₄ l h = refl
per_sum kind false false false true e₁ e₂ e₃ e₄ l h = refl
per_sum kind false false false false e₁ e₂ e₃ e₄ l h =
    let n₁ = eqb-false kind 1 e₁ in
    let n₂ = eqb-false kind 2 e₂ in
    let n₃ = eqb-false kind 3 e₃ in
    let n₄ = eqb-false kind 4 e₄ in
    absurd (omega arith)

-- the elements from the protocol identifier or the status on
pub message_end : (q : Shape) → 1 ≤ q.kind → q.kind ≤ 4
    → at 20 q ≡ at 7 q + message_bits q.kind q.storage q.forward
message_end q l h =
    let k = q.kind in
    let e = per_sum k (eqb k 1) (eqb k 2) (eqb k 3) (eqb k 4) refl refl refl refl l h in
    omega arith

-- ---- storage's forward address type

pub stored_not : (kind storage forward : ℕ) {w : ℕ} → w ≡ per kind storage storage 0 0 → (w ≡ 1 → ⊥)
    → true ≡ stored_holds kind storage forward
stored_not kind storage forward e h = rw (ne_eqb (per kind storage storage 0 0) 1 (rw e at h)) refl

pub stored_is : (kind storage forward : ℕ) {w : ℕ} → w ≡ per kind storage storage 0 0 → w ≡ 1
    → direct forward ≡ stored_holds kind storage forward
stored_is kind storage forward e h = rw (eq-eqb (per kind storage storage 0 0) 1 (sym e ∙ h)) refl

-- ---- the FCS after the frame

-- what stands there, written again
over_same : (end : ℕ) (old : List Bool) → end ≤ length old → over 0 (take end old) old ≡ old
unfolding over
over_same end old h = rw (length-take-le end old h, zero-add end) (take-append-drop end old)

pub fcs_put : (flag end v : ℕ) (old : List Bool) → flag ≡ 1 → end + 32 ≤ length old → v ≡ num (fcs_of (take end old))
    → over end (bits_n 32 v) old ≡ over 0 (checked flag (take end old)) old
fcs_put flag end v old f h e =
    let a = take end old in
    let la : length a ≡ end = length-take-le end old (omega arith) in
    let bits : bits_n 32 v ≡ fcs_of a = ap (bits_n 32) e ∙ fcs_bits a in
    rw (bits, eq-eqb flag 1 f)
    (ap (λ (x : List Bool). over end (fcs_of a) x) (sym (over_same end old (omega arith)))
    ∙ ap (λ (k : ℕ). over k (fcs_of a) (over 0 a old)) (sym (zero-add (length a) ∙ la))
    ∙ over_over 0 a (fcs_of a) old (omega (arith, la, length_fcs a)))

pub fcs_none : (flag end : ℕ) (old : List Bool) → (flag ≡ 1 → ⊥) → end ≤ length old
    → old ≡ over 0 (checked flag (take end old)) old
fcs_none flag end old f h = rw (ne_eqb flag 1 f) (sym (over_same end old h))

-- ---- all of it written

-- a longer string over a shorter one
over_again : (a c o : List Bool) → length a ≤ length c → length a ≤ length o → over 0 c (over 0 a o) ≡ over 0 c o
unfolding over
over_again a c o h l =
    ap (λ (x : List Bool). c ++ x) (over_drop (0 + length c) 0 a o (omega arith) (omega arith))

pub length_checked : (flag : ℕ) (f : List Bool) → flag ≤ 1 → length (checked flag f) ≡ length f + 32 * flag
length_checked flag f h = when (eqb flag 1) refl
  where
    when : (t : Bool) → eqb flag 1 ≡ t → length (cond t (f ++ fcs_of f) f) ≡ length f + 32 * flag
    when true e = let z = eqb-true flag 1 e in length-append f (fcs_of f) ∙ omega (arith, length_fcs f)
    when false e = let z = eqb-false flag 1 e in omega arith

module _ (p u : List Bool) (first n flag : ℕ) (old new : List ℕ) (lp : length p ≡ first) (lu : length u ≡ n)
    (hf : flag ≤ 1) (room : first + n + 32 * flag ≤ 8 * length old) where
  abbrev o : List Bool
  o = bits_of old

  abbrev frame : List Bool
  frame = p ++ u

  abbrev whole : List Bool
  whole = checked flag frame

  length_frame : length frame ≡ first + n
  length_frame = length-append p u ∙ omega arith

  pub length_whole : length whole ≡ first + n + 32 * flag
  length_whole = length_checked flag frame hf ∙ omega (arith, length_frame)

  abbrev q : ℕ
  q = (first + n + 32 * flag + 7) / 8

  elements_and_data : over first u (over 0 p o) ≡ over 0 frame o
  elements_and_data =
      ap (λ (k : ℕ). over k u (over 0 p o)) (sym lp ∙ sym (zero-add (length p)))
      ∙ over_over 0 p u o (omega (arith, length_bits_of old))

  frame_there : take (first + n) (over 0 frame o) ≡ frame
  frame_there = over_read 0 (first + n) frame o (omega arith) length_frame

  pub sdu_put : (b₁ b₂ b₃ : List Bool) → b₁ ≡ over 0 p o → b₂ ≡ over first u b₁
      → b₃ ≡ over 0 (checked flag (take (first + n) b₂)) b₂
      → bits_of new ≡ over (first + n + 32 * flag) (replicate (q * 8 - (first + n + 32 * flag)) false) b₃
      → AllBytes old → AllBytes new → new ≡ handed whole old
  sdu_put b₁ b₂ b₃ e₁ e₂ e₃ e₄ ho hn =
      let lw = length_whole in
      let lf = length_frame in
      let lo = length_bits_of old in
      let z = replicate (8 * q - length whole) false in
      let spare : q * 8 - (first + n + 32 * flag) ≡ 8 * q - length whole = omega arith in
      let lz : length z ≡ 8 * q - length whole = length-replicate (8 * q - length whole) false in
      let two : b₂ ≡ over 0 frame o = e₂ ∙ ap (over first u) e₁ ∙ elements_and_data in
      let three : b₃ ≡ over 0 whole o =
      e₃
      ∙ ap (λ (x : List Bool). over 0 (checked flag (take (first + n) x)) x) two
      ∙ ap (λ (x : List Bool). over 0 (checked flag x) (over 0 frame o)) frame_there
      ∙ over_again frame whole o (omega arith) (omega arith) in
      let four : bits_of new ≡ over 0 (whole ++ z) o =
      e₄
      ∙ ap₂ (λ (k : ℕ) (x : List Bool). over (first + n + 32 * flag) (replicate k false) x) spare three
      ∙ ap (λ (k : ℕ). over k z (over 0 whole o)) (sym lw ∙ sym (zero-add (length whole)))
      ∙ over_over 0 whole z o (omega arith) in
      let filled : message_bytes whole ≡ bytes_n q (whole ++ z) = message_filled whole ∙ rw lw refl in
      bytes_written q (whole ++ z) old new (length-append whole z ∙ omega arith) ho hn four ∙ rw filled refl
