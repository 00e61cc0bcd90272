-- What a build's rules show of its numbers, where none is broken; and nothing else is refused. Assumes nothing.
use mathlib.Core.Path.{◌≡◌, refl, sym, ap, ◌∙◌}
use mathlib.Core.Bool.{Bool, true, false, cond}
use mathlib.Core.List.{List, ◌++◌}
use Prim.Native.Nat.{ℕ, zero, suc, ◌+◌, ◌-◌, ◌*◌, ◌^◌, ◌≤◌, ◌<◌}
use native.Mathlib.Omega.{arith}
use lib.Dec.{eqb, leb}
use lib.ListN.{length, take}
use lib.Pow.{pow_pos}
use borrow.Author.Tests.{le-leb, eq-eqb, leb-true, eqb-true}
use Rattle.bits.specs.Bits.{bits_of}
use Rattle.bits.specs.Layout.{AllFit}
use Rattle.bits.proofs.Packing.{fit_at}
use Rattle.blocks.proofs.FaultLaws.{chain_split}
use Rattle.store.specs.Store.{handed}
use Rattle.transport.specs.Layouts.{ack_of, per, Shape, at, sdti_of, type_of, beginning_of}
use Rattle.transport.specs.Reading.{direct}
use Rattle.transport.specs.Building.{shape_for, length_for, parts_for, built_bits, bits_for, stored_holds}
use Rattle.transport.specs.Building.{most_for, fits, kind_rules, flag_rules, fit_rules, build_fault, built_as, sdu_of}
use Rattle.transport.specs.Building.{out_of}
use Rattle.transport.specs.Well.{Buildable}
use Rattle.transport.specs.declared.Message.{Message}
use Rattle.transport.proofs.RuleLaws.{kind_holds, flags_hold, fit_holds}
use Rattle.transport.proofs.BuildLaws.{fits_all, all_fits}
use Rattle.transport.proofs.WellLaws.{by_kind, ack_small, holds_when}

-- ---- flags

pub flag_le : (w v : ℕ) → w ≤ 1 → v < 2 ^ w → v ≤ w
flag_le zero v h l = omega arith
flag_le (suc zero) v h l = omega arith
flag_le (suc (suc w)) v h l = absurd (omega arith)

le_flag : (w v : ℕ) → w ≤ 1 → v ≤ w → v < 2 ^ w
le_flag zero v h l = omega arith
le_flag (suc zero) v h l = omega arith
le_flag (suc (suc w)) v h l = absurd (omega arith)

-- 0001, where it is there
one_fits : (v : ℕ) → v ≤ 1 → v < 2 ^ (4 * v)
one_fits zero h = omega arith
one_fits (suc zero) h = omega arith
one_fits (suc (suc v)) h = absurd (omega arith)

most_le : (ack flag : ℕ) → most_for ack flag ≤ 2047
most_le ack flag = when (eqb ack 1)
  where
    when : (t : Bool) → cond t (269 - 32 * flag) 2047 ≤ 2047
    when true = omega arith
    when false = omega arith

-- ---- by the kind

module _ (k : ℕ) (l : 1 ≤ k) (h : k ≤ 4) where
  -- what the first three have
  three_le : (x v : ℕ) → per k x x x 0 ≤ v → k ≤ 3 → x ≤ v
  three_le x v =
      by_kind (λ (j : ℕ). per j x x x 0 ≤ v → j ≤ 3 → x ≤ v) (λ e i. e) (λ e i. e) (λ e i. e)
      (λ e i. absurd (omega arith)) k l h

  le_three : (x v : ℕ) → (k ≤ 3 → x ≤ v) → per k x x x 0 ≤ v
  le_three x v =
      by_kind (λ (j : ℕ). (j ≤ 3 → x ≤ v) → per j x x x 0 ≤ v) (λ e. e (omega arith)) (λ e. e (omega arith))
      (λ e. e (omega arith)) (λ e. omega arith) k l h

  -- what the first two have
  two_is : (x : ℕ) → k ≤ 2 → per k x x 0 0 ≡ x
  two_is x =
      by_kind (λ (j : ℕ). j ≤ 2 → per j x x 0 0 ≡ x) (λ i. refl) (λ i. refl) (λ i. absurd (omega arith))
      (λ i. absurd (omega arith)) k l h

  pub two_of : (x : ℕ) → per k x x 0 0 ≡ 1 → (k ≤ 2) × (x ≡ 1)
  two_of x =
      by_kind (λ (j : ℕ). per j x x 0 0 ≡ 1 → (j ≤ 2) × (x ≡ 1)) (λ e. (omega arith, e)) (λ e. (omega arith, e))
      (λ e. absurd (omega arith)) (λ e. absurd (omega arith)) k l h

  -- and the others do not
  pub none_in : (x : ℕ) → 3 ≤ k → per k x x 0 0 ≡ 0
  none_in x =
      by_kind (λ (j : ℕ). 3 ≤ j → per j x x 0 0 ≡ 0) (λ i. absurd (omega arith)) (λ i. absurd (omega arith)) (λ i. refl)
      (λ i. refl) k l h

  few_in : (x n : ℕ) → per k (x + n) (x + n) (x + n) 0 ≤ 2047 → (3 ≤ k → n ≡ 0) → n ≤ per k 2047 2047 0 0
  few_in x n =
      by_kind (λ (j : ℕ). per j (x + n) (x + n) (x + n) 0 ≤ 2047 → (3 ≤ j → n ≡ 0) → n ≤ per j 2047 2047 0 0)
      (λ i e. omega arith) (λ i e. omega arith) (λ i e. let z = e (omega arith) in omega arith)
      (λ i e. let z = e (omega arith) in omega arith) k l h

  pub storage_small : per k 1 1 0 0 ≤ 1
  storage_small = by_kind (λ (j : ℕ). per j 1 1 0 0 ≤ 1) (omega arith) (omega arith) (omega arith) (omega arith) k l h

  pub length_wide : per k 11 11 11 0 ≤ 11
  length_wide = by_kind (λ (j : ℕ). per j 11 11 11 0 ≤ 11) (omega arith) (omega arith) (omega arith) (omega arith) k l h

  -- what tells the kind fits, and so does a length
  tells_fit : (n : ℕ) → per k n n n 0 ≤ 2047
      → (sdti_of k < 2 ^ 4) × (per k n n n 0 < 2 ^ per k 11 11 11 0) × (type_of k < 2 ^ per k 4 4 4 0)
      × (beginning_of k < 2 ^ per k 0 0 0 6)
  tells_fit n =
      by_kind
      (λ (j : ℕ). per j n n n 0 ≤ 2047
      → (sdti_of j < 2 ^ 4) × (per j n n n 0 < 2 ^ per j 11 11 11 0) × (type_of j < 2 ^ per j 4 4 4 0)
      × (beginning_of j < 2 ^ per j 0 0 0 6))
      (λ i. (omega arith, omega arith, omega arith, omega arith))
      (λ i. (omega arith, omega arith, omega arith, omega arith))
      (λ i. (omega arith, omega arith, omega arith, omega arith))
      (λ i. (omega arith, omega arith, omega arith, omega arith)) k l h

-- ---- what is not refused

pub buildable : (carrier flag : ℕ) (m : Message) (n bytes lent : ℕ) → build_fault carrier flag m n bytes lent ≡ 0
    → Buildable carrier flag m n bytes lent
unfolding build_fault
buildable carrier flag m n bytes lent e =
    let ack = ack_of carrier in
    let k = m.kind in
    let w = stored_holds k m.storage m.forward in
    let l = length_for (shape_for ack m) n in
    let parts = parts_for ack m n in
    let enough = leb (bits_for carrier flag m n) (8 * lent) in
    let p = per k 128 128 128 0 in
    let c = per k 2047 2047 0 0 in
    let there = leb n (8 * bytes) in
    let kinds = kind_rules carrier (ack + 1) k p m.protocol w in
    let flags = flag_rules flag m.addressed m.storage n c there in
    let rest = fit_rules l (most_for ack flag) (fits parts) enough in
    let (e₁, e) = chain_split kinds (flags ++ rest) e in
    let (e₂, e₃) = chain_split flags rest e in
    let x = kind_holds carrier (ack + 1) k p m.protocol w e₁ in
    let y = flags_hold flag m.addressed m.storage n c there e₂ in
    let z = fit_holds l (most_for ack flag) (fits parts) enough e₃ in
    let f = fits_all parts z.fits in
    let least = x.first in
    let most = x.last in
    let first : 1 ≤ k = omega arith in
    let v = per k m.storage m.storage 0 0 in
    let few = y.few in
    record {
      lowest = x.from;
      highest = x.up_to;
      least = least;
      most = most;
      protocol = λ i. three_le k first most 128 m.protocol x.protocol i;
      stored = λ i j. rw (eq-eqb v 1 (two_is k first most m.storage i ∙ j)) at x.direct;
      flagged = y.flagged;
      addressed = flag_le (1 - ack) m.addressed (omega arith) (fit_at 1 parts f);
      storage = flag_le (per k 1 1 0 0) m.storage (storage_small k first most) (fit_at 13 parts f);
      mni = fit_at 3 parts f;
      ssi = fit_at 4 parts f;
      octet = fit_at 7 parts f;
      request = fit_at 9 parts f;
      short = fit_at 10 parts f;
      required = fit_at 11 parts f;
      status = fit_at 15 parts f;
      reference = fit_at 16 parts f;
      validity = fit_at 17 parts f;
      forward = fit_at 18 parts f;
      address = fit_at 19 parts f;
      none = λ i. let u = none_in k first most 2047 i in omega arith;
      user = leb-true n (8 * bytes) y.there;
      long = z.long;
      room = leb-true (bits_for carrier flag m n) (8 * lent) z.room;
    }

-- ---- and nothing else is refused

module _ {carrier flag n bytes lent : ℕ} {m : Message} (g : Buildable carrier flag m n bytes lent) where
  abbrev ack : ℕ
  ack = ack_of carrier

  abbrev k : ℕ
  k = m.kind

  abbrev q : Shape
  q = shape_for ack m

  first : 1 ≤ k
  first = let z = g.least in omega arith

  long_le : length_for q n ≤ 2047
  long_le = let x = g.long in let y = most_le ack flag in omega arith

  pub parts_fit : AllFit (parts_for ack m n)
  parts_fit =
      let t = tells_fit k first g.most (at 20 q - at 7 q + n) long_le in
      let a = ack_small carrier in
      let d = g.addressed in
      let s = le_flag (per k 1 1 0 0) m.storage (storage_small k first g.most) g.storage in
      let r = pow_pos (per k 0 2 4 0) in (
        one_fits ack a,
        (
          le_flag (1 - ack) m.addressed (omega arith) d,
          (
            one_fits m.addressed (omega arith),
            (
              g.mni,
              (
                g.ssi,
                (
                  t.0,
                  (
                    t.1,
                    (
                      g.octet,
                      (
                        t.2,
                        (
                          g.request,
                          (
                            g.short,
                            (
                              g.required,
                              (
                                r,
                                (
                                  s,
                                  (
                                    t.3,
                                    (
                                      g.status,
                                      (g.reference, (g.validity, (g.forward, (g.address, tt)))),
                                    ),
                                  ),
                                ),
                              ),
                            ),
                          ),
                        ),
                      ),
                    ),
                  ),
                ),
              ),
            ),
          ),
        ),
      )

  stored_right : stored_holds k m.storage m.forward ≡ true
  stored_right =
      let v = per k m.storage m.storage 0 0 in
      holds_when (eqb v 1) (direct m.forward)
      (λ e. let z = two_of k first g.most m.storage (eqb-true v 1 e) in g.stored z.0 z.1)

  pub no_fault : build_fault carrier flag m n bytes lent ≡ 0
  unfolding build_fault
  no_fault =
      let d = g.addressed in
      let s = g.storage in
      let c = storage_small k first g.most in
      rw (
        le-leb 22 carrier g.lowest,
        le-leb carrier 24 g.highest,
        le-leb (ack + 1) k g.least,
        le-leb k 4 g.most,
        le-leb (per k 128 128 128 0) m.protocol (le_three k first g.most 128 m.protocol g.protocol),
        stored_right,
        le-leb flag 1 g.flagged,
        le-leb m.addressed 1 (omega arith),
        le-leb m.storage 1 (omega arith),
        le-leb n (per k 2047 2047 0 0) (few_in k first g.most (at 20 q - at 7 q) n long_le g.none),
        le-leb n (8 * bytes) g.user,
        le-leb (length_for q n) (most_for ack flag) g.long,
        all_fits (parts_for ack m n) parts_fit,
        le-leb (bits_for carrier flag m n) (8 * lent) g.room,
      ) refl

-- ---- the answer

fault_is : (f bits : ℕ) → (built_as f bits).fault ≡ f
fault_is zero bits = refl
fault_is (suc f) bits = refl

-- what a build does not refuse
pub built_range : (carrier flag : ℕ) (m : Message) (n bytes lent : ℕ) → (sdu_of carrier flag m n bytes lent).fault ≡ 0
    → Buildable carrier flag m n bytes lent
unfolding sdu_of
built_range carrier flag m n bytes lent e =
    buildable carrier flag m n bytes lent
    (sym (fault_is (build_fault carrier flag m n bytes lent) (bits_for carrier flag m n)) ∙ e)

-- and what it makes of it
pub range_built : {carrier flag n bytes lent : ℕ} {m : Message} → Buildable carrier flag m n bytes lent
    → sdu_of carrier flag m n bytes lent ≡ record { fault = 0; bits = bits_for carrier flag m n }
unfolding sdu_of
range_built {carrier} {flag} {n} {bytes} {lent} {m} g =
    ap (λ (f : ℕ). built_as f (bits_for carrier flag m n)) (no_fault g)

pub range_out : {carrier flag n : ℕ} {m : Message} (user out : List ℕ)
    → Buildable carrier flag m n (length user) (length out)
    → out_of carrier flag m n user out ≡ handed (built_bits carrier flag m (take n (bits_of user))) out
unfolding out_of
range_out user out g = rw (no_fault g) refl
