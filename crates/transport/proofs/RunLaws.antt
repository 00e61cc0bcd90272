-- The laws of the runs of bits that are read: the elements that are cut out of them are those of the DM-SDU. Assumes
-- nothing.
use mathlib.Core.Path.{◌≡◌, refl, sym, ◌∙◌}
use mathlib.Core.Bool.{Bool, true, false, cond}
use mathlib.Core.List.{List}
use Prim.Native.Nat.{ℕ, zero, suc, ◌+◌, ◌-◌, ◌*◌, ◌^◌, ◌≤◌, ◌<◌}
use native.Mathlib.Omega.{arith}
use lib.Dec.{eqb, ltb}
use lib.ListN.{length, drop}
use lib.Pow.{pow_pos}
use borrow.Author.Tests.{lt-ltb, le-ltb, ltb-true, ltb-false}
use Rattle.bits.proofs.Numbers.{num_take_lt, fits_in}
use Rattle.bits.specs.Bits.{field}
use Rattle.transport.specs.Layouts.{per, forward_width, Shape, shape, at}
use Rattle.transport.specs.Elements.{whole, element_in, addressed_in, kind_in_data, kind_in_status, kind_in}
use Rattle.transport.specs.Elements.{storage_in, end_in}
use Rattle.transport.specs.Runs.{cut, run_in, front_of, kind_at, fixed_at, stored_at}
use Rattle.transport.specs.declared.elements.Front.{Front}
use Rattle.transport.specs.declared.elements.Fixed.{Fixed}
use Rattle.transport.specs.declared.elements.Stored.{Stored}
use Rattle.transport.proofs.ElementLaws.{per_le, forward_le, part_is, bit_is, no_bits, not_there}

-- where the short data type identifier begins
abbrev pub sdti_at : ℕ → ℕ → ℕ
sdti_at ack a = at 5 (shape ack a 0 0 0)

-- ---- what stands before it

whole_when : (t : Bool) (place w : ℕ) (b : List Bool) → cond t 0 (field place w b) < 2 ^ w
whole_when true place w b = pow_pos w
whole_when false place w b = num_take_lt w (drop place b)

whole_lt : (place w : ℕ) (b : List Bool) → whole place w b < 2 ^ w
whole_lt place w b = whole_when (ltb (length b) (place + w)) place w b

pub addressed_le : (ack : ℕ) (b : List Bool) → addressed_in ack b ≤ 1
unfolding addressed_in
addressed_le ack b =
    let h : addressed_in ack b < 2 ^ 1 = fits_in 1 (whole_lt (0 + 4 * ack) (1 - ack) b) (omega arith) in
    omega arith

pub storage_le : (ack : ℕ) (b : List Bool) → storage_in ack b ≤ 1
unfolding storage_in
storage_le ack b =
    let k = kind_in ack b in
    let q = shape ack (addressed_in ack b) k 0 0 in
    let w = per_le 1 k 1 1 0 0 (omega arith) (omega arith) (omega arith) (omega arith) in
    let h : storage_in ack b < 2 ^ 1 = fits_in 1 (whole_lt (at 13 q) (per k 1 1 0 0) b) w in
    omega arith

-- the addressing flag, as the first 53 bits have it
pub record Flagged (ack a x : ℕ) : Type 0 where
  pub carried : ack ≤ 1
  pub small : a ≤ 1
  pub flag : ack ≡ 0 → cut 52 1 x ≡ a
  pub none : ack ≡ 1 → a ≡ 0

flag_when : (ack : ℕ) (b : List Bool) → ack ≡ 0 → cut 52 1 (run_in 0 53 b) ≡ addressed_in ack b
unfolding addressed_in
flag_when zero b e = bit_is 0 53 52 {place = 0} b (omega arith) (omega arith)
flag_when (suc ack) b e = absurd (omega arith)

none_when : (ack : ℕ) (b : List Bool) → ack ≡ 1 → addressed_in ack b ≡ 0
unfolding addressed_in
none_when zero b e = absurd (omega arith)
none_when (suc zero) b e = sym (no_bits 4 b)
none_when (suc (suc ack)) b e = absurd (omega arith)

pub flagged : (ack : ℕ) (b : List Bool) → ack ≤ 1 → Flagged ack (addressed_in ack b) (run_in 0 53 b)
flagged ack b h = record { carried = h; small = addressed_le ack b; flag = flag_when ack b; none = none_when ack b }

pub front_next : (ack a x : ℕ) → Flagged ack a x
    → ((front_of ack x).addressed ≡ a) × ((front_of ack x).next ≡ sdti_at ack a)
unfolding front_of
front_next zero zero x h = rw (h.flag refl) (refl, refl)
front_next zero (suc zero) x h = rw (h.flag refl) (refl, refl)
front_next zero (suc (suc a)) x h = absurd (let s = h.small in omega arith)
front_next (suc zero) zero x h = (refl, refl)
front_next (suc zero) (suc a) x h = absurd (let s = h.none refl in omega arith)
front_next (suc (suc ack)) a x h = absurd (let s = h.carried in omega arith)

abbrev pub exact : ℕ → ℕ → List Bool → Front
exact ack a b =
    let q = shape ack a 0 0 0 in
    record {
      acknowledged = element_in 0 q b;
      addressed = a;
      kind = element_in 2 q b;
      mni = element_in 3 q b;
      ssi = element_in 4 q b;
      next = at 5 q;
    }

-- where it is all there
pub front_is : (ack a : ℕ) (b : List Bool) → Flagged ack a (run_in 0 53 b) → sdti_at ack a ≤ length b
    → front_of ack (run_in 0 53 b) ≡ exact ack a b
unfolding front_of
front_is zero zero b h l =
    rw (h.flag refl) (λ i. record {
      acknowledged = no_bits 0 b i;
      addressed = 0;
      kind = no_bits 1 b i;
      mni = no_bits 1 b i;
      ssi = no_bits 1 b i;
      next = 1;
    })
front_is zero (suc zero) b h l =
    let k = part_is 0 53 48 4 {place = 1} b (omega arith) (omega arith) (omega arith) in
    let m = part_is 0 53 24 24 {place = 5} b (omega arith) (omega arith) (omega arith) in
    let s = part_is 0 53 0 24 {place = 29} b (omega arith) (omega arith) (omega arith) in
    rw (h.flag refl)
    (λ i. record { acknowledged = no_bits 0 b i; addressed = 1; kind = k i; mni = m i; ssi = s i; next = 53 })
front_is zero (suc (suc a)) b h l = absurd (let s = h.small in omega arith)
front_is (suc zero) zero b h l =
    let k = part_is 0 53 49 4 {place = 0} b (omega arith) (omega arith) (omega arith) in
    λ i. record {
      acknowledged = k i;
      addressed = 0;
      kind = no_bits 4 b i;
      mni = no_bits 4 b i;
      ssi = no_bits 4 b i;
      next = 4;
    }
front_is (suc zero) (suc a) b h l = absurd (let s = h.none refl in omega arith)
front_is (suc (suc ack)) a b h l = absurd (let s = h.carried in omega arith)

-- ---- the kind

no_kind : (t u : Bool) → cond {A = ℕ} t 0 (cond u 0 0) ≡ 0
no_kind true u = refl
no_kind false true = refl
no_kind false false = refl

module _ (ack : ℕ) (b : List Bool) where
  abbrev a : ℕ
  a = addressed_in ack b

  abbrev p : ℕ
  p = sdti_at ack a

  abbrev q : Shape
  q = shape ack a 1 0 0

  abbrev x : ℕ
  x = run_in p 47 b

  -- too short to tell
  short_at : length b < p + 10 → kind_at (length b) p x ack ≡ 0
  unfolding kind_at kind_in_data
  short_at h =
      rw (lt-ltb (length b) (p + 27) (omega arith), lt-ltb (length b) (p + 10) h)
      (no_kind (eqb (cut 43 4 x) 3) (eqb (cut 43 4 x) 4))

  short_in : length b < p + 10 → kind_in ack b ≡ 0
  unfolding kind_in kind_in_data
  short_in h =
      rw (lt-ltb (length b) (at 9 q) (omega arith), not_there (at 14 (shape ack a 4 0 0)) 6 b (omega arith))
      (no_kind (eqb (element_in 5 q b) 3) (eqb (element_in 5 q b) 4))

  data_when : (t : Bool) → ltb (length b) (p + 27) ≡ t
      → kind_in_data (length b) (p + 27) (cut 32 11 x) (cut 24 8 x) (cut 20 4 x) ack
      ≡ kind_in_data (length b) (at 9 q) (element_in 6 q b) (element_in 7 q b) (element_in 8 q b) ack
  unfolding kind_in_data
  data_when true t =
      let h = ltb-true (length b) (p + 27) t in
      rw (lt-ltb (length b) (p + 27) h, lt-ltb (length b) (at 9 q) (omega arith)) refl
  data_when false t =
      let h = ltb-false (length b) (p + 27) t in
      let e : p + 27 ≡ at 9 q = omega arith in
      let l = part_is p 47 32 11 {place = at 6 q} b (omega arith) (omega arith) (omega arith) in
      let r = part_is p 47 24 8 {place = at 7 q} b (omega arith) (omega arith) (omega arith) in
      let m = part_is p 47 20 4 {place = at 8 q} b (omega arith) (omega arith) (omega arith) in
      λ i. kind_in_data (length b) (e i) (l i) (r i) (m i) ack

  there_is : p + 10 ≤ length b → kind_at (length b) p x ack ≡ kind_in ack b
  unfolding kind_at kind_in
  there_is h =
      let s = part_is p 47 43 4 {place = at 5 q} b (omega arith) (omega arith) (omega arith) in
      let w = part_is p 47 37 6 {place = at 14 (shape ack a 4 0 0)} b (omega arith) (omega arith) (omega arith) in
      rw (s, w, le-ltb (length b) (p + 10) h, data_when (ltb (length b) (p + 27)) refl) refl

  kind_when : (t : Bool) → ltb (length b) (p + 10) ≡ t → kind_at (length b) p x ack ≡ kind_in ack b
  kind_when true t = let h = ltb-true (length b) (p + 10) t in short_at h ∙ sym (short_in h)
  kind_when false t = there_is (ltb-false (length b) (p + 10) t)

  pub kind_is : kind_at (length b) p x ack ≡ kind_in ack b
  kind_is = kind_when (ltb (length b) (p + 10)) refl

-- what is there where the kind is told
pub record Told (ack a k : ℕ) (b : List Bool) : Type 0 where
  pub some : 1 ≤ k → sdti_at ack a + 10 ≤ length b
  pub data4 : 1 ≤ k → k ≤ 3 → sdti_at ack a + 27 ≤ length b
  pub most : k ≤ 4

type_le : (m : ℕ) (t₁ t₂ t₃ t₄ t₅ : Bool) → ltb 2 m ≡ t₄
    → cond t₁ 0 (cond t₂ 0 (cond t₃ 0 (cond t₄ 0 (cond t₅ 0 (m + 1))))) ≤ 3
type_le m true t₂ t₃ t₄ t₅ e = omega arith
type_le m false true t₃ t₄ t₅ e = omega arith
type_le m false false true t₄ t₅ e = omega arith
type_le m false false false true t₅ e = omega arith
type_le m false false false false true e = omega arith
type_le m false false false false false e = let h = ltb-false 2 m e in omega arith

data_le : (n e l r m ack : ℕ) → kind_in_data n e l r m ack ≤ 3
unfolding kind_in_data
data_le n e l r m ack = type_le m (ltb n e) (ltb l 12) (ltb r 128) (ltb 2 m) (ltb m ack) refl

data_there : (n e l r m ack : ℕ) (t : Bool) → ltb n e ≡ t → 1 ≤ kind_in_data n e l r m ack → e ≤ n
unfolding kind_in_data
data_there n e l r m ack false t h = ltb-false n e t
data_there n e l r m ack true t h = absurd (let z : 1 ≤ 0 = rw t at h in omega arith)

status_le : (t : Bool) → (1 ≤ cond t 4 0 → 4 ≤ cond t 4 0) × (cond t 4 0 ≤ 4)
status_le true = (λ h. omega arith, omega arith)
status_le false = (λ h. absurd (omega arith), omega arith)

status_there : (place : ℕ) (b : List Bool) (t : Bool) → ltb (length b) (place + 6) ≡ t
    → 1 ≤ kind_in_status (whole place 6 b) → place + 6 ≤ length b
status_there place b false t h = ltb-false (length b) (place + 6) t
status_there place b true t h = absurd (let z : 1 ≤ 0 = rw t at h in omega arith)

told_when : (ack a d s : ℕ) (b : List Bool) (t u : Bool) → d ≤ 3 → (1 ≤ d → sdti_at ack a + 27 ≤ length b)
    → (1 ≤ s → 4 ≤ s) → s ≤ 4 → (1 ≤ s → sdti_at ack a + 10 ≤ length b) → Told ack a (cond t d (cond u s 0)) b
told_when ack a d s b true u hd td hs ms ts =
    record { some = λ h. let l = td h in omega arith; data4 = λ h g. td h; most = omega arith }
told_when ack a d s b false true hd td hs ms ts =
    record { some = ts; data4 = λ h g. absurd (let l = hs h in omega arith); most = ms }
told_when ack a d s b false false hd td hs ms ts =
    record { some = λ h. absurd (omega arith); data4 = λ h g. absurd (omega arith); most = omega arith }

pub told : (ack : ℕ) (b : List Bool) → Told ack (addressed_in ack b) (kind_in ack b) b
unfolding kind_in
told ack b =
    let a = addressed_in ack b in
    let q = shape ack a 1 0 0 in
    let q' = shape ack a 4 0 0 in
    let l = element_in 6 q b in
    let r = element_in 7 q b in
    let m = element_in 8 q b in
    let w = element_in 14 q' b in
    told_when ack a (kind_in_data (length b) (at 9 q) l r m ack) (kind_in_status w) b
    (eqb (element_in 5 q b) 3)
    (eqb (element_in 5 q b) 4)
    (data_le (length b) (at 9 q) l r m ack)
    (λ h. let g = data_there (length b) (at 9 q) l r m ack (ltb (length b) (at 9 q)) refl h in omega arith)
    (status_le (eqb w 31)).0
    (status_le (eqb w 31)).1
    (λ h. let g = status_there (at 14 q') b (ltb (length b) (at 14 q' + 6)) refl h in omega arith)

-- ---- the elements that a message always has

pub record Rest (q : Shape) (b : List Bool) (x : Fixed) : Type 0 where
  pub protocol : x.protocol ≡ element_in 7 q b
  pub request : x.request ≡ element_in 9 q b
  pub short : x.short ≡ element_in 10 q b
  pub required : x.required ≡ element_in 11 q b
  pub status : x.status ≡ element_in 15 q b
  pub reference : x.reference ≡ element_in 16 q b

pub record Agreed (q : Shape) (b : List Bool) (x : Fixed) : Type 0 where
  pub end : x.from + per q.kind x.length x.length x.length 16 ≡ end_in q b
  pub storage : x.storage ≡ element_in 13 (shape q.ack q.addressed q.kind 0 0) b
  pub next : x.next ≡ at 17 q
  pub rest : at 17 q ≤ length b → Rest q b x

pub fixed_is : (ack a k t f : ℕ) (b : List Bool) → 1 ≤ k → Told ack a k b
    → Agreed (shape ack a k t f) b (fixed_at (sdti_at ack a) k (run_in (sdti_at ack a) 47 b))
unfolding fixed_at
fixed_is ack a zero t f b h l = absurd (omega arith)
fixed_is ack a (suc zero) t f b h l =
    let p = sdti_at ack a in
    let q = shape ack a 1 t f in
    let u = l.data4 h (omega arith) in
    let e = part_is p 47 32 11 {place = at 6 q} b (omega arith) (omega arith) (omega arith) in
    let o : p + 15 ≡ at 7 q = omega arith in
    record {
      end = λ i. o i + e i;
      storage = bit_is p 47 16 {place = at 13 (shape ack a 1 0 0)} b (omega arith) (omega arith);
      next = omega arith;
      rest = λ g. record {
        protocol = part_is p 47 24 8 {place = at 7 q} b (omega arith) (omega arith) (omega arith);
        request = part_is p 47 18 2 {place = at 9 q} b (omega arith) (omega arith) (omega arith);
        short = part_is p 47 17 1 {place = at 10 q} b (omega arith) (omega arith) (omega arith);
        required = no_bits (at 11 q) b;
        status = no_bits (at 15 q) b;
        reference = part_is p 47 8 8 {place = at 16 q} b (omega arith) (omega arith) (omega arith);
      };
    }
fixed_is ack a (suc (suc zero)) t f b h l =
    let p = sdti_at ack a in
    let q = shape ack a 2 t f in
    let u = l.data4 h (omega arith) in
    let e = part_is p 47 32 11 {place = at 6 q} b (omega arith) (omega arith) (omega arith) in
    let o : p + 15 ≡ at 7 q = omega arith in
    record {
      end = λ i. o i + e i;
      storage = bit_is p 47 16 {place = at 13 (shape ack a 2 0 0)} b (omega arith) (omega arith);
      next = omega arith;
      rest = λ g. record {
        protocol = part_is p 47 24 8 {place = at 7 q} b (omega arith) (omega arith) (omega arith);
        request = no_bits (at 9 q) b;
        short = no_bits (at 10 q) b;
        required = part_is p 47 19 1 {place = at 11 q} b (omega arith) (omega arith) (omega arith);
        status = part_is p 47 8 8 {place = at 15 q} b (omega arith) (omega arith) (omega arith);
        reference = part_is p 47 0 8 {place = at 16 q} b (omega arith) (omega arith) (omega arith);
      };
    }
fixed_is ack a (suc (suc (suc zero))) t f b h l =
    let p = sdti_at ack a in
    let q = shape ack a 3 t f in
    let u = l.data4 h (omega arith) in
    let e = part_is p 47 32 11 {place = at 6 q} b (omega arith) (omega arith) (omega arith) in
    let o : p + 15 ≡ at 7 q = omega arith in
    record {
      end = λ i. o i + e i;
      storage = no_bits (at 13 (shape ack a 3 0 0)) b;
      next = omega arith;
      rest = λ g. record {
        protocol = part_is p 47 24 8 {place = at 7 q} b (omega arith) (omega arith) (omega arith);
        request = no_bits (at 9 q) b;
        short = no_bits (at 10 q) b;
        required = no_bits (at 11 q) b;
        status = part_is p 47 8 8 {place = at 15 q} b (omega arith) (omega arith) (omega arith);
        reference = part_is p 47 0 8 {place = at 16 q} b (omega arith) (omega arith) (omega arith);
      };
    }
fixed_is ack a (suc (suc (suc (suc zero)))) t f b h l =
    let p = sdti_at ack a in
    let q = shape ack a 4 t f in
    record {
      end = omega arith;
      storage = no_bits (at 13 (shape ack a 4 0 0)) b;
      next = omega arith;
      rest = λ g. record {
        protocol = no_bits (at 7 q) b;
        request = no_bits (at 9 q) b;
        short = no_bits (at 10 q) b;
        required = no_bits (at 11 q) b;
        status = part_is p 47 35 2 {place = at 15 q} b (omega arith) (omega arith) (omega arith);
        reference = part_is p 47 27 8 {place = at 16 q} b (omega arith) (omega arith) (omega arith);
      };
    }
fixed_is ack a (suc (suc (suc (suc (suc k))))) t f b h l = absurd (let m = l.most in omega arith)

-- ---- the elements that hang on storage

pub record StoredAs (q : Shape) (b : List Bool) (x : Stored) : Type 0 where
  pub typed : x.typed ≡ at 19 q
  pub far : at 19 q ≤ x.next
  pub forward : at 19 q ≤ length b → x.forward ≡ q.forward
  pub next : at 19 q ≤ length b → x.next ≡ at 20 q
  pub validity : at 19 q ≤ length b → x.validity ≡ element_in 17 q b
  pub address : at 20 q ≤ length b → x.address ≡ element_in 19 q b

not_stored : (ack a k : ℕ) (b : List Bool) → let q = shape ack a k 0 0 in StoredAs q b (stored_at (at 17 q) 0 b)
unfolding stored_at
not_stored ack a k b =
    let q = shape ack a k 0 0 in
    record {
      typed = omega arith;
      far = omega arith;
      forward = λ h. refl;
      next = λ h. omega arith;
      validity = λ h. no_bits (at 17 q) b;
      address = λ h. no_bits (at 19 q) b;
    }

pub stored_is : (ack a k t f : ℕ) (b : List Bool) → t ≤ 1 → f ≡ element_in 18 (shape ack a k t 0) b
    → let q = shape ack a k t f in StoredAs q b (stored_at (at 17 q) t b)
unfolding stored_at
stored_is ack a k zero f b h e =
    let z : f ≡ 0 = e ∙ sym (no_bits (at 18 (shape ack a k 0 0)) b) in
    rw z (not_stored ack a k b)
stored_is ack a k (suc zero) f b h e =
    let q = shape ack a k 1 f in
    let p = at 17 q in
    let x = run_in p 56 b in
    let few = forward_le f in
    let is : at 19 q ≤ length b → cut 48 3 x ≡ f =
    λ l. part_is p 56 48 3 {place = at 18 q} b (omega arith) (omega arith) (omega arith) ∙ sym e in
    record {
      typed = omega arith;
      far = omega arith;
      forward = is;
      next = λ l. rw (is l) (omega arith);
      validity = λ l. part_is p 56 51 5 {place = at 17 q} b (omega arith) (omega arith) (omega arith);
      address = λ l.
          let w = forward_width f in
          rw (is (omega arith)) (part_is p 56 (48 - w) w {place = at 19 q} b (omega arith) (omega arith) l);
    }
stored_is ack a k (suc (suc t)) f b h e = absurd (omega arith)
