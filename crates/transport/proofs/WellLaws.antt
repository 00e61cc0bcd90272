-- What reads well, in plain facts: exactly that is not refused. Assumes nothing.
use mathlib.Core.Path.{◌≡◌, refl, sym, ap, ◌∙◌}
use mathlib.Core.Bool.{Bool, true, false, cond}
use mathlib.Core.List.{List, [], ◌∷◌}
use Prim.Native.Nat.{ℕ, zero, suc, ◌+◌, ◌-◌, ◌*◌, ◌≤◌}
use native.Mathlib.Omega.{arith}
use lib.Dec.{eqb, leb, ltb}
use lib.ListN.{length, take, drop, get_or, length-take, length-drop}
use borrow.Author.Tests.{le-ltb, le-leb, eq-eqb, ltb-false, eqb-true}
use Rattle.bits.specs.Bits.{num, field}
use Rattle.bits.specs.Layout.{place_in}
use Rattle.bits.proofs.Numbers.{num_inj}
use Rattle.blocks.specs.Faults.{unless, first_of}
use Rattle.blocks.proofs.FaultLaws.{le_holds, rule_split}
use Rattle.fcs.specs.Annex.{fcs_of}
use Rattle.fcs.proofs.Annex.{length_fcs}
use Rattle.transport.specs.Layouts.{ack_of, per, Shape, shape, layout, at, sdti_of, type_of, beginning_of, end_of}
use Rattle.transport.specs.Elements.{whole, element_in, addressed_in, kind_in_data, kind_in_status, kind_in}
use Rattle.transport.specs.Elements.{storage_in, forward_in, shape_of, end_in}
use Rattle.transport.specs.Reading.{direct, forward_holds, fcs_holds, rules_of, flag_of, sdu_bits, read_checks}
use Rattle.transport.specs.Reading.{transport_of, answered, read_bits, read_of}
use Rattle.transport.specs.Well.{stands, end_at, ReadsWell, transport_at}
use Rattle.transport.specs.declared.Transport.{Transport}
use Rattle.transport.proofs.RuleLaws.{sdu_holds}
use Rattle.transport.proofs.ReadLaws.{ack_le, lent_read}

-- what holds of each of the four kinds
pub by_kind : (P : ℕ → Type 0) → P 1 → P 2 → P 3 → P 4 → (k : ℕ) → 1 ≤ k → k ≤ 4 → P k
by_kind P p₁ p₂ p₃ p₄ zero l h = absurd (omega arith)
by_kind P p₁ p₂ p₃ p₄ (suc zero) l h = p₁
by_kind P p₁ p₂ p₃ p₄ (suc (suc zero)) l h = p₂
by_kind P p₁ p₂ p₃ p₄ (suc (suc (suc zero))) l h = p₃
by_kind P p₁ p₂ p₃ p₄ (suc (suc (suc (suc zero)))) l h = p₄
by_kind P p₁ p₂ p₃ p₄ (suc (suc (suc (suc (suc k))))) l h = absurd (omega arith)

-- ---- elements that are all there

place_le : (a : ℕ) (ws : List ℕ) (k : ℕ)
    → (a ≤ place_in a ws k) × (place_in a ws k + get_or ws k 0 ≤ place_in a ws (length ws))
place_le a [] k = (omega arith, omega arith)
place_le a (w ∷ ws) zero = let z = (place_le (a + w) ws (length ws)).0 in (omega arith, omega arith)
place_le a (w ∷ ws) (suc k) = let z = place_le (a + w) ws k in (omega arith, z.1)

pub element_end : (q : Shape) (k : ℕ) → at k q + get_or (layout q) k 0 ≤ at 20 q
element_end q k = (place_le 0 (layout q) k).1

whole_field : (place w : ℕ) (b : List Bool) → place + w ≤ length b → whole place w b ≡ field place w b
whole_field place w b h = rw (le-ltb (length b) (place + w) h) refl

-- one of no bits is 0
whole_none : (place : ℕ) (b : List Bool) → whole place 0 b ≡ 0
unfolding num
whole_none place b = when (ltb (length b) (place + 0))
  where
    when : (t : Bool) → ◌≡◌ {A = ℕ} (cond t 0 0) 0
    when true = refl
    when false = refl

module _ (q : Shape) (b : List Bool) (h : at 20 q ≤ length b) where
  pub element_stands : (k : ℕ) → element_in k q b ≡ stands k q b
  element_stands k = whole_field (at k q) (get_or (layout q) k 0) b (omega (arith, element_end q k))

  pub end_stands : end_in q b ≡ end_at q b
  end_stands = ap (end_of q) (element_stands 6)

-- ---- the kind

-- by user defined data 4
data_told : (n end l p t ack k : ℕ) → 1 ≤ k → kind_in_data n end l p t ack ≡ k
    → (128 ≤ p) × (t ≤ 2) × (ack ≤ t) × (t + 1 ≡ k)
unfolding kind_in_data
data_told n end l p t ack k h =
    when (ltb n end) (ltb l 12) (ltb p 128) (ltb 2 t) (ltb t ack) refl refl refl
  where
    when : (c₁ c₂ c₃ c₄ c₅ : Bool) → ltb p 128 ≡ c₃ → ltb 2 t ≡ c₄ → ltb t ack ≡ c₅
        → cond c₁ 0 (cond c₂ 0 (cond c₃ 0 (cond c₄ 0 (cond c₅ 0 (t + 1))))) ≡ k
        → (128 ≤ p) × (t ≤ 2) × (ack ≤ t) × (t + 1 ≡ k)
    when true c₂ c₃ c₄ c₅ e₃ e₄ e₅ e = absurd (omega arith)
    when false true c₃ c₄ c₅ e₃ e₄ e₅ e = absurd (omega arith)
    when false false true c₄ c₅ e₃ e₄ e₅ e = absurd (omega arith)
    when false false false true c₅ e₃ e₄ e₅ e = absurd (omega arith)
    when false false false false true e₃ e₄ e₅ e = absurd (omega arith)
    when false false false false false e₃ e₄ e₅ e = (ltb-false p 128 e₃, ltb-false 2 t e₄, ltb-false t ack e₅, e)

-- by a status
status_told : (v k : ℕ) → 1 ≤ k → kind_in_status v ≡ k → (v ≡ 31) × (4 ≡ k)
status_told v k h = when (eqb v 31) refl
  where
    when : (c : Bool) → eqb v 31 ≡ c → cond c 4 0 ≡ k → (v ≡ 31) × (4 ≡ k)
    when true g e = (eqb-true v 31 g, e)
    when false g e = absurd (omega arith)

-- what the kind tells of the elements that tell it, whatever the storage
record Told (ack a k s f : ℕ) (b : List Bool) : Type 0 where
  least : ack + 1 ≤ k
  most : k ≤ 4
  sdti : element_in 5 (shape ack a k s f) b ≡ sdti_of k
  protocol : k ≤ 3 → 128 ≤ element_in 7 (shape ack a k s f) b
  type : element_in 8 (shape ack a k s f) b ≡ type_of k
  beginning : element_in 14 (shape ack a k s f) b ≡ beginning_of k

module _ (ack s f : ℕ) (b : List Bool) (h : ack ≤ 1) where
  abbrev addressed : ℕ
  addressed = addressed_in ack b

  abbrev in_data : Shape
  in_data = shape ack addressed 1 0 0

  abbrev in_status : Shape
  in_status = shape ack addressed 4 0 0

  abbrev ToldAs : ℕ → Type 0
  ToldAs k = Told ack addressed k s f b

  told_data : (t : ℕ) → element_in 5 in_data b ≡ 3 → 128 ≤ element_in 7 in_data b → element_in 8 in_data b ≡ t → t ≤ 2
      → ack ≤ t → ToldAs (t + 1)
  told_data t g p e l m =
      let of : ℕ → Shape = λ k. shape ack addressed k s f in
      let none : (k : ℕ) → whole (at 14 (of k)) 0 b ≡ 0 = λ k. whole_none (at 14 (of k)) b in
      let z =
      by_kind
      (λ (k : ℕ). t + 1 ≡ k
      → (element_in 5 (of k) b ≡ sdti_of k) × (128 ≤ element_in 7 (of k) b) × (element_in 8 (of k) b ≡ type_of k)
      × (element_in 14 (of k) b ≡ beginning_of k))
      (λ i. (g, p, omega arith, none 1)) (λ i. (g, p, omega arith, none 2)) (λ i. (g, p, omega arith, none 3))
      (λ i. absurd (omega arith)) (t + 1) (omega arith) (omega arith) refl in
      record {
        least = omega arith;
        most = omega arith;
        sdti = z.0;
        protocol = λ y. z.1;
        type = z.2;
        beginning = z.3;
      }

  told_status : element_in 5 in_status b ≡ 4 → element_in 14 in_status b ≡ 31 → ToldAs 4
  told_status g e =
      record {
        least = omega arith;
        most = omega arith;
        sdti = g;
        protocol = λ z. absurd (omega arith);
        type = whole_none (at 8 (shape ack addressed 4 s f)) b;
        beginning = e;
      }

  tells_when : (c d : Bool) → eqb (element_in 5 in_data b) 3 ≡ c → eqb (element_in 5 in_data b) 4 ≡ d → (k : ℕ) → 1 ≤ k
      → let n = length b in let q = in_data in
      cond c (kind_in_data n (at 9 q) (element_in 6 q b) (element_in 7 q b) (element_in 8 q b) ack)
      (cond d (kind_in_status (element_in 14 in_status b)) 0)
      ≡ k → ToldAs k
  tells_when true d g i k l e =
      let q = in_data in
      let z = data_told (length b) (at 9 q) (element_in 6 q b) (element_in 7 q b) (element_in 8 q b) ack k l e in
      rw (← z.3) (told_data (element_in 8 q b) (eqb-true (element_in 5 q b) 3 g) z.0 refl z.1 z.2)
  tells_when false true g i k l e =
      let z = status_told (element_in 14 in_status b) k l e in
      rw (← z.1) (told_status (eqb-true (element_in 5 in_status b) 4 i) z.0)
  tells_when false false g i k l e = absurd (omega arith)

  kind_tells : 1 ≤ kind_in ack b → ToldAs (kind_in ack b)
  unfolding kind_in
  kind_tells l =
      tells_when (eqb (element_in 5 in_data b) 3) (eqb (element_in 5 in_data b) 4) refl refl (kind_in ack b) l refl

-- ---- what is not refused

pub ack_small : (carrier : ℕ) → ack_of carrier ≤ 1
ack_small carrier = ack_le carrier refl

forward_told : (storage forward typed end n : ℕ) → typed ≤ end → end ≤ n
    → forward_holds storage forward typed end n ≡ true → storage ≡ 1 → direct forward ≡ true
forward_told storage forward typed end n h l e i =
    rw (eq-eqb storage 1 i, le-ltb end typed h, le-ltb n typed (omega arith)) at e

-- the FCS as bits, and as the number of its bits
fcs_told : (end flag : ℕ) (b : List Bool) → end + 32 ≤ length b → flag ≡ 1 → fcs_holds flag end b ≡ true
    → take 32 (drop end b) ≡ fcs_of (take end b)
fcs_told end flag b h f e =
    let c = fcs_of (take end b) in
    let l : length (take 32 (drop end b)) ≡ length c =
    rw (length-take 32 (drop end b), length-drop end b) (omega (arith, length_fcs (take end b))) in
    let g : eqb (field end 32 b) (num c) ≡ true = rw (eq-eqb flag 1 f, le-ltb (length b) (end + 32) h) at e in
    num_inj (take 32 (drop end b)) c l (eqb-true (field end 32 b) (num c) g)

module _ (carrier flag : ℕ) (b : List Bool) where
  abbrev Q : Shape
  Q = shape_of (ack_of carrier) b

  -- the elements that decide the widths
  addressed_in_lem : element_in 1 Q b ≡ Q.addressed
  unfolding addressed_in
  addressed_in_lem = refl

  storage_in_lem : element_in 13 Q b ≡ Q.storage
  unfolding storage_in
  storage_in_lem = refl

  forward_in_lem : element_in 18 Q b ≡ Q.forward
  unfolding forward_in
  forward_in_lem = refl

  pub well_read : first_of (rules_of carrier flag Q b) ≡ 0 → ReadsWell carrier flag b
  well_read e =
      let z = sdu_holds _ _ _ _ _ _ _ _ _ _ _ _ e in
      let end = end_in Q b in
      let fixed : at 20 Q ≤ end = z.ended.fixed in
      let there : end + 32 * flag ≤ length b = z.ended.there in
      let h : at 20 Q ≤ length b = omega arith in
      let same : (k : ℕ) → stands k Q b ≡ element_in k Q b = λ k. sym (element_stands Q b h k) in
      let t = kind_tells (ack_of carrier) Q.storage Q.forward b (ack_small carrier) z.one in
      let typed : at 19 Q ≤ end = omega (arith, element_end Q 19) in
      let ends = end_stands Q b h in
      record {
        lowest = z.from;
        highest = z.up_to;
        form = Q;
        carried = refl;
        addressed = same 1 ∙ addressed_in_lem;
        storage = same 13 ∙ storage_in_lem;
        forward = same 18 ∙ forward_in_lem;
        acknowledged = same 0 ∙ z.acknowledged;
        address = same 2 ∙ z.address;
        least = t.least;
        most = t.most;
        sdti = same 5 ∙ t.sdti;
        protocol = λ l. rw (same 7) (t.protocol l);
        type = same 8 ∙ t.type;
        beginning = same 14 ∙ t.beginning;
        stored =
            forward_told Q.storage Q.forward (at 19 Q) end (length b) typed (omega arith) z.ended.direct;
        fixed = rw (← ends) fixed;
        there = rw (← ends) there;
        check = λ f. rw (← ends) (fcs_told end flag b (omega arith) f z.ended.checked);
      }

-- ---- and nothing else is refused

data_tells : (n end l p t ack : ℕ) → end ≤ n → 12 ≤ l → 128 ≤ p → t ≤ 2 → ack ≤ t
    → kind_in_data n end l p t ack ≡ t + 1
unfolding kind_in_data
data_tells n end l p t ack h i j k m =
    rw (le-ltb n end h, le-ltb l 12 i, le-ltb p 128 j, le-ltb 2 t k, le-ltb t ack m) refl

module _ (ack a s f : ℕ) (b : List Bool) (addressed : addressed_in ack b ≡ a) where
  kind_of_data : (t : ℕ) → let q = shape ack a 1 0 0 in at 9 q ≤ length b → 12 ≤ element_in 6 q b → element_in 5 q b ≡ 3
      → 128 ≤ element_in 7 q b → element_in 8 q b ≡ t → t ≤ 2 → ack ≤ t → kind_in ack b ≡ t + 1
  unfolding kind_in
  kind_of_data t h l e p i m n =
      let q = shape ack a 1 0 0 in
      let v₆ = element_in 6 q b in
      let v₇ = element_in 7 q b in
      let v₈ = element_in 8 q b in
      rw (addressed, eq-eqb (element_in 5 q b) 3 e)
      (data_tells (length b) (at 9 q) v₆ v₇ v₈ ack h l p (omega arith) (omega arith) ∙ ap (λ (x : ℕ). x + 1) i)

  kind_of_status : let q = shape ack a 4 0 0 in element_in 5 q b ≡ 4 → element_in 14 q b ≡ 31 → kind_in ack b ≡ 4
  unfolding kind_in
  kind_of_status e i = rw (addressed, e, eq-eqb (element_in 14 (shape ack a 4 0 0) b) 31 i) refl

  kind_back : (k : ℕ) → 1 ≤ k → k ≤ 4 → let q = shape ack a k s f in ack + 1 ≤ k → at 20 q ≤ end_in q b
      → end_in q b ≤ length b → element_in 5 q b ≡ sdti_of k → (k ≤ 3 → 128 ≤ element_in 7 q b)
      → element_in 8 q b ≡ type_of k → element_in 14 q b ≡ beginning_of k → kind_in ack b ≡ k
  kind_back =
      by_kind
      (λ (k : ℕ). let q = shape ack a k s f in ack + 1 ≤ k → at 20 q ≤ end_in q b → end_in q b ≤ length b
      → element_in 5 q b ≡ sdti_of k → (k ≤ 3 → 128 ≤ element_in 7 q b) → element_in 8 q b ≡ type_of k
      → element_in 14 q b ≡ beginning_of k → kind_in ack b ≡ k)
      (λ l x y e p t i. kind_of_data 0 (omega arith) (omega arith) e (p (omega arith)) t (omega arith) (omega arith))
      (λ l x y e p t i. kind_of_data 1 (omega arith) (omega arith) e (p (omega arith)) t (omega arith) (omega arith))
      (λ l x y e p t i. kind_of_data 2 (omega arith) (omega arith) e (p (omega arith)) t (omega arith) (omega arith))
      (λ l x y e p t i. kind_of_status e i)

-- a test that is made only where another holds
pub holds_when : (t u : Bool) → (t ≡ true → u ≡ true) → cond t u true ≡ true
holds_when true u h = h refl
holds_when false u h = refl

module _ {carrier flag : ℕ} {b : List Bool} (w : ReadsWell carrier flag b) where
  abbrev F : Shape
  F = w.form

  abbrev end : ℕ
  end = end_in F b

  pub fixed_inside : at 20 F ≤ length b
  fixed_inside = let x = w.fixed in let y = w.there in omega arith

  pub kind_least : 1 ≤ F.kind
  kind_least = let z = w.least in omega arith

  same : (k : ℕ) → element_in k F b ≡ stands k F b
  same = element_stands F b fixed_inside

  ends : end_at F b ≡ end
  ends = sym (end_stands F b fixed_inside)

  fixed_in : at 20 F ≤ end
  fixed_in = rw (← ends) w.fixed

  there_in : end + 32 * flag ≤ length b
  there_in = rw (← ends) w.there

  addressed_back : addressed_in F.ack b ≡ F.addressed
  unfolding addressed_in
  addressed_back = same 1 ∙ w.addressed

  kind_is : kind_in F.ack b ≡ F.kind
  kind_is =
      let x = there_in in
      kind_back F.ack F.addressed F.storage F.forward b addressed_back F.kind kind_least w.most
      w.least fixed_in (omega arith) (same 5 ∙ w.sdti) (λ l. rw (same 7) (w.protocol l)) (same 8 ∙ w.type)
      (same 14 ∙ w.beginning)

  storage_back : storage_in F.ack b ≡ F.storage
  unfolding storage_in
  storage_back = rw (addressed_back, kind_is) (same 13 ∙ w.storage)

  forward_back : forward_in F.ack b ≡ F.forward
  unfolding forward_in
  forward_back = rw (addressed_back, kind_is, storage_back) (same 18 ∙ w.forward)

  -- the widths are those that reading finds
  pub form_is : shape_of (ack_of carrier) b ≡ F
  form_is =
      ap (λ (x : ℕ). shape_of x b) (sym w.carried)
      ∙ (λ i. record {
        ack = F.ack;
        addressed = addressed_back i;
        kind = kind_is i;
        storage = storage_back i;
        forward = forward_back i;
      })

  forward_right : forward_holds F.storage F.forward (at 19 F) end (length b) ≡ true
  forward_right =
      let e = element_end F 19 in
      let x = fixed_in in
      let y = there_in in
      rw (le-ltb end (at 19 F) (omega arith), le-ltb (length b) (at 19 F) (omega arith))
      (holds_when (eqb F.storage 1) (direct F.forward) (λ e. w.stored (eqb-true F.storage 1 e)))

  abbrev right : Bool
  right = eqb (field end 32 b) (num (fcs_of (take end b)))

  check_when : flag ≡ 1 → cond (ltb (length b) (end + 32)) true right ≡ true
  check_when f =
      let y = there_in in
      rw (le-ltb (length b) (end + 32) (omega arith))
      (eq-eqb (field end 32 b) (num (fcs_of (take end b))) (ap num (rw ends at (w.check f))))

  check_right : fcs_holds flag end b ≡ true
  check_right =
      holds_when (eqb flag 1) (cond (ltb (length b) (end + 32)) true right) (λ e. check_when (eqb-true flag 1 e))

  rules_hold : first_of (rules_of carrier flag F b) ≡ 0
  rules_hold =
      rw (
        le-leb 22 carrier w.lowest,
        le-leb carrier 24 w.highest,
        eq-eqb (element_in 0 F b) F.ack (same 0 ∙ w.acknowledged),
        eq-eqb (element_in 2 F b) F.addressed (same 2 ∙ w.address),
        le-leb 1 F.kind kind_least,
        forward_right,
        check_right,
        le-leb (at 20 F) end fixed_in,
        le-leb (end + 32 * flag) (length b) there_in,
      ) refl

  pub well_passes : first_of (rules_of carrier flag (shape_of (ack_of carrier) b) b) ≡ 0
  well_passes = ap (λ (q : Shape). first_of (rules_of carrier flag q b)) form_is ∙ rules_hold

-- ---- the answer

-- read as it stands
answer_stands : (q : Shape) (b : List Bool) → at 20 q ≤ length b → transport_of q b ≡ transport_at q b
answer_stands q b h =
    let same : (k : ℕ) → element_in k q b ≡ stands k q b = element_stands q b h in
    let n : end_in q b - at 20 q ≡ end_at q b - at 20 q = ap (λ (e : ℕ). e - at 20 q) (end_stands q b h) in
    λ i. record {
      fault = 0;
      message = record {
        kind = q.kind;
        addressed = q.addressed;
        mni = same 3 i;
        ssi = same 4 i;
        protocol = same 7 i;
        request = same 9 i;
        short = same 10 i;
        required = same 11 i;
        storage = q.storage;
        status = same 15 i;
        reference = same 16 i;
        validity = same 17 i;
        forward = q.forward;
        address = same 19 i;
      };
      first = per q.kind (at 20 q) (at 20 q) 0 0;
      bits = per q.kind (n i) (n i) 0 0;
    }

-- what reads well reads as it stands
pub well_stands : {carrier flag : ℕ} {b : List Bool} (w : ReadsWell carrier flag b)
    → read_bits carrier flag b ≡ transport_at w.form b
unfolding read_bits
well_stands {b = b} w =
    rw (well_passes w)
    (ap (λ (q : Shape). transport_of q b) (form_is w) ∙ answer_stands w.form b (fixed_inside w))

answered_fault : (n : ℕ) (r : Transport) → r.fault ≡ 0 → (answered n r).fault ≡ n
answered_fault zero r e = e
answered_fault (suc n) r e = refl

module _ (carrier elements n : ℕ) (sdu : List ℕ) where
  abbrev all : List Bool
  all = sdu_bits n sdu

  abbrev checks : List ℕ
  checks = read_checks carrier elements n sdu

  -- what is not refused is lent, and reads well
  module _ (good : (read_of carrier elements n sdu).fault ≡ 0) where
    none : first_of checks ≡ 0
    unfolding read_of
    none = sym (answered_fault (first_of checks) (transport_of (shape_of (ack_of carrier) all) all) refl) ∙ good

    pub read_lent : n ≤ 8 * length sdu
    read_lent =
        let rest = rules_of carrier (flag_of elements) (shape_of (ack_of carrier) all) all in
        le_holds n (8 * length sdu) 12 (rule_split (unless (leb n (8 * length sdu)) 13) rest none).0

    pub reads_well : ReadsWell carrier (flag_of elements) all
    reads_well = well_read carrier (flag_of elements) all (rw (le-leb n (8 * length sdu) read_lent) at none)

  -- what is lent, and reads well, is not refused, and reads as it stands
  pub well_reads : n ≤ 8 * length sdu → (w : ReadsWell carrier (flag_of elements) all)
      → read_of carrier elements n sdu ≡ transport_at w.form all
  well_reads h w = sym (lent_read carrier elements n sdu (le-leb n (8 * length sdu) h)) ∙ well_stands w
