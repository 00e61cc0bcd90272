-- The laws of the table of widths. Assumes nothing.
use mathlib.Core.Path.{◌≡◌, refl, sym, ap, ap₂, ◌∙◌, subst}
use mathlib.Core.Bool.{Bool, true, false, ◌&&◌, ◌||◌}
use mathlib.Core.List.{List, [], ◌∷◌, ◌++◌}
use Prim.Native.Nat.{ℕ, zero, suc, ◌+◌, ◌≤◌, ◌<◌}
use native.Mathlib.Omega.{arith}
use lib.Dec.{T, eqb, ltb, leb, leb→le}
use borrow.Author.Tests.{leb-true, ltb-true, ltb-false, eqb-true}
use mathlib.Core.Logic.{◌⊎◌, inl, inr, ⊎_elim}
use lib.ListN.{length, take, drop, get_or, replicate, length-replicate, get_or-replicate}
use lib.ListN.{get_or-append, get_or-eq_default}
use lib.Seq.{drop-drop}
use Rattle.bits.specs.Bits.{num, field}
use Rattle.blocks.specs.Widths.{table, no_entry, entry_of, added, added_if, width_of}
use Rattle.blocks.specs.declared.widths.Entry.{Entry}
use Rattle.blocks.specs.declared.widths.Flag.{Flag}
use Rattle.bits.proofs.Tests.{both}
use Rattle.blocks.proofs.Tables.{at_any}

-- one of two tests passes, so one of what they say holds
of_tests : {P Q : Type 0} (s t : Bool) → (s ≡ true → P) → (t ≡ true → Q) → T (s || t) → P ⊎ Q
of_tests true t p q e = inl (p refl)
of_tests false true p q e = inr (q refl)
of_tests false false p q e = absurd e

-- how far in a flag stands in elements of width w, and how much it adds
pub record NearFlag (w : ℕ) (f : Flag) : Type 0 where
  pub place : f.place ≤ 10
  pub adds : f.adds ≤ 12
  pub within : T (eqb f.adds 0 || ltb f.place w)

pub record Near (e : Entry) : Type 0 where
  pub first : NearFlag e.width e.first
  pub second : NearFlag e.width e.second
  pub width : T (leb e.width 21 || eqb e.width 255)

abbrev near_flag? : ℕ → Flag → Bool
near_flag? w f = leb f.place 10 && (leb f.adds 12 && (eqb f.adds 0 || ltb f.place w))

abbrev near? : Entry → Bool
near? e = near_flag? e.width e.first && (near_flag? e.width e.second && (leb e.width 21 || eqb e.width 255))

near_flag : (w : ℕ) (f : Flag) → T (near_flag? w f) → NearFlag w f
near_flag w f t =
    let u = both (leb f.place 10) _ t in
    let v = both (leb f.adds 12) _ u.1 in
    record { place = leb→le f.place 10 u.0; adds = leb→le f.adds 12 v.0; within = v.1 }

nearly : (e : Entry) → T (near? e) → Near e
nearly e t =
    let u = both (near_flag? e.width e.first) _ t in
    let v = both (near_flag? e.width e.second) _ u.1 in
    record { first = near_flag e.width e.first u.0; second = near_flag e.width e.second v.0; width = v.1 }

pub near_entry : (m : ℕ) {e : Entry} → e ≡ entry_of m → Near e
unfolding entry_of
near_entry m p = subst Near (sym p) (nearly (entry_of m) (at_any near? table no_entry tt tt m))

-- ---- the codes without entry

-- a run of n entries that are none
none_in : (xs ys : List Entry) (n m : ℕ) → length xs ≤ m → m < length xs + n
    → get_or (xs ++ (replicate n no_entry ++ ys)) m no_entry ≡ no_entry
none_in [] ys n m h l =
    get_or-append (replicate n no_entry) ys no_entry m (rw (length-replicate n no_entry) (omega arith))
    ∙ get_or-replicate n m no_entry no_entry (omega arith)
none_in (x ∷ xs) ys n zero h l = absurd (omega arith)
none_in (x ∷ xs) ys n (suc m) h l = none_in xs ys n m (omega arith) (omega arith)

-- codes 4 to 7, 25 to 31, and what is no code
unlisted_when : (early listed : Bool) (m : ℕ) → ltb m 8 ≡ early → ltb m 32 ≡ listed → 4 ≤ m → (8 ≤ m → 25 ≤ m)
    → no_entry ≡ entry_of m
unfolding entry_of
unlisted_when true listed m a b h l =
    let k = ltb-true m 8 a in sym (none_in (take 4 table) (drop 8 table) 4 m (omega arith) (omega arith))
unlisted_when false true m a b h l =
    let k = ltb-true m 32 b in
    let n = l (ltb-false m 8 a) in
    sym (none_in (take 25 table) [] 7 m (omega arith) (omega arith))
unlisted_when false false m a b h l = sym (get_or-eq_default table no_entry (ltb-false m 32 b))

-- the messages are 0 to 3 and 8 to 24
pub unlisted : (m : ℕ) → 4 ≤ m → (8 ≤ m → 25 ≤ m) → no_entry ≡ entry_of m
unlisted m h l = unlisted_when (ltb m 8) (ltb m 32) m refl refl h l

-- ---- what flags add

added_if_le : (t : Bool) (n : ℕ) → added_if t n ≤ n
added_if_le true n = omega arith
added_if_le false n = omega arith

pub added_le : {a : ℕ} (flag n : ℕ) → a ≡ added flag n → a ≤ n
added_le flag n e = rw e (added_if_le (eqb flag 1) n)

-- an entry's width is at most 21, or the mark's
entry_width : (e : Entry) → Near e → (e.width ≤ 21) ⊎ (e.width ≡ 255)
entry_width e s = of_tests (leb e.width 21) (eqb e.width 255) (leb-true e.width 21) (eqb-true e.width 255) s.width

-- flags add at most 24 bits
width_range : (e : Entry) (run : List Bool) → Near e → (e.width ≤ width_of e run) × (width_of e run ≤ e.width + 24)
unfolding width_of
width_range e run s =
    let f = e.first in
    let g = e.second in
    let a = added (field f.place 1 run) f.adds in
    omega (
      arith,
      added_le {a = a} (field f.place 1 run) f.adds refl,
      added_le {a = added (field (a + g.place) 1 run) g.adds} (field (a + g.place) 1 run) g.adds refl,
    )

pub width_le_279 : {w : ℕ} (m : ℕ) (run : List Bool) → w ≡ width_of (entry_of m) run → w ≤ 279
width_le_279 m run e =
    let s = near_entry m {e = entry_of m} refl in
    let r = width_range (entry_of m) run s in
    rw e (⊎_elim (λ h. omega arith) (λ h. omega arith) (entry_width (entry_of m) s))

pub entry_le : (m : ℕ) (run : List Bool) → (entry_of m).width ≤ width_of (entry_of m) run
entry_le m run = (width_range (entry_of m) run (near_entry m {e = entry_of m} refl)).0

-- the width of a listed message
pub width_listed : (m : ℕ) (run : List Bool) → (entry_of m).width ≤ 254 → width_of (entry_of m) run ≤ 45
width_listed m run l =
    let s = near_entry m {e = entry_of m} refl in
    let r = width_range (entry_of m) run s in
    ⊎_elim (λ h. omega arith) (λ h. absurd (omega arith)) (entry_width (entry_of m) s)

pub width_le_45 : {w : ℕ} (m : ℕ) (run : List Bool) → w ≡ width_of (entry_of m) run → w ≤ 254 → w ≤ 45
width_le_45 m run e l =
    let s = near_entry m {e = entry_of m} refl in
    let r = width_range (entry_of m) run s in
    let k = rw e at l in
    rw e (⊎_elim (λ h. omega arith) (λ h. absurd (omega arith)) (entry_width (entry_of m) s))

field_drop : (at p : ℕ) (b : List Bool) → field (at + p) 1 b ≡ field p 1 (drop at b)
field_drop at p b = ap (λ (l : List Bool). num (take 1 l)) (sym (drop-drop p at b))

-- what the code makes of an entry and its two flags
pub width_read : (m at : ℕ) (b : List Bool) (e : Entry) (a₁ a₂ : ℕ) → e ≡ entry_of m
    → a₁ ≡ added (field (at + e.first.place) 1 b) e.first.adds
    → a₂ ≡ added (field (at + a₁ + e.second.place) 1 b) e.second.adds
    → e.width + a₁ + a₂ ≡ width_of (entry_of m) (drop at b)
unfolding width_of
width_read m at b e a₁ a₂ p q r =
    let f = e.first in
    let g = e.second in
    let there : at + a₁ + g.place ≡ at + (a₁ + g.place) = omega arith in
    let s₁ : a₁ ≡ added (field f.place 1 (drop at b)) f.adds =
    q ∙ ap (λ (x : ℕ). added x f.adds) (field_drop at f.place b) in
    let s₂ : a₂ ≡ added (field (a₁ + g.place) 1 (drop at b)) g.adds =
    r ∙ ap (λ (x : ℕ). added (field x 1 b) g.adds) there
    ∙ ap (λ (x : ℕ). added x g.adds) (field_drop at (a₁ + g.place) b) in
    ap₂ (λ (x y : ℕ). e.width + x + y) s₁
    (s₂ ∙ ap (λ (x : ℕ). added (field (x + g.place) 1 (drop at b)) g.adds) s₁)
    ∙ ap (λ (x : Entry). width_of x (drop at b)) p

-- ---- what follows the elements does not count

field_in : (p : ℕ) (l rest : List Bool) → p < length l → field p 1 (l ++ rest) ≡ field p 1 l
field_in p [] rest h = absurd (omega arith)
field_in zero (x ∷ xs) rest h = refl
field_in (suc p) (x ∷ xs) rest h = field_in p xs rest (omega arith)

added_none : (t : Bool) → added_if t 0 ≡ 0
added_none true = refl
added_none false = refl

-- a flag that adds something stands within the entry's width
flag_when : (p a w : ℕ) → T (eqb a 0 || ltb p w) → (a ≡ 0) ⊎ (p < w)
flag_when p a w = of_tests (eqb a 0) (ltb p w) (eqb-true a 0) (ltb-true p w)

added_in : (p a : ℕ) (l rest : List Bool) → (a ≡ 0) ⊎ (p < length l)
    → added (field p 1 (l ++ rest)) a ≡ added (field p 1 l) a
added_in p a l rest (inl z) = rw z (added_none (eqb (field p 1 (l ++ rest)) 1) ∙ sym (added_none (eqb (field p 1 l) 1)))
added_in p a l rest (inr h) = rw (field_in p l rest h) refl

-- where the entry's width and what its first flag adds are within a string, the width goes by that string alone
module _ (m : ℕ) (l rest : List Bool) where
  abbrev e : Entry
  e = entry_of m

  first_same : e.width ≤ length l
      → added (field e.first.place 1 (l ++ rest)) e.first.adds ≡ added (field e.first.place 1 l) e.first.adds
  first_same h =
      let f = e.first in
      let s = near_entry m {e = e} refl in
      added_in f.place f.adds l rest
      (⊎_elim inl (λ p. inr (omega arith))
      (flag_when f.place f.adds e.width s.first.within))

  same_width : e.width + added (field e.first.place 1 l) e.first.adds ≤ length l
      → width_of e (l ++ rest) ≡ width_of e l
  unfolding width_of
  same_width h =
      let g = e.second in
      let s = near_entry m {e = e} refl in
      let a = added (field e.first.place 1 l) e.first.adds in
      let second : added (field (a + g.place) 1 (l ++ rest)) g.adds ≡ added (field (a + g.place) 1 l) g.adds =
      added_in (a + g.place) g.adds l rest
      (⊎_elim inl (λ p. inr (omega arith))
      (flag_when g.place g.adds e.width s.second.within)) in
      rw (first_same (omega arith), second) refl

  -- so it does where its length is that width, with or without what follows
  pub width_prefix : width_of e l ≡ length l → width_of e (l ++ rest) ≡ width_of e l
  unfolding width_of
  width_prefix q = same_width (omega arith)

  pub width_alone : width_of e (l ++ rest) ≡ length l → width_of e l ≡ length l
  unfolding width_of
  width_alone q = sym (same_width (let f = first_same (omega arith) in omega arith)) ∙ q
