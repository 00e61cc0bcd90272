-- What a build's rules make of its numbers. Assumes nothing.
use mathlib.Core.Path.{◌≡◌, refl, sym, ap, ◌∙◌}
use mathlib.Core.Bool.{Bool, true, false}
use mathlib.Core.List.{List, ◌++◌}
use Prim.Native.Nat.{ℕ, zero, suc, ◌+◌, ◌-◌, ◌*◌, ◌/◌, ◌≤◌, ◌<◌}
use native.Mathlib.Nat.{sub_self}
use native.Mathlib.Omega.{arith}
use lib.Dec.{leb}
use borrow.Author.Tests.{le-leb, lt-leb, leb-true, leb-false}
use Rattle.blocks.specs.Widths.{entry_of, run_fits}
use Rattle.build.specs.Plan.{number_rules, address_rules, element_rules, header_rules, length_rules, header_bits}
use Rattle.build.specs.Plan.{build_fault}
use Rattle.build.specs.Plan.{Planned, no_plan, plan_as, plan_of, planned_of}
use Rattle.blocks.specs.Faults.{first_of}
use Rattle.blocks.specs.declared.sync.Sync.{Sync}
use Rattle.blocks.specs.declared.header.Fields.{Fields}
use Rattle.blocks.proofs.FaultLaws.{chain_none, chain_given}
use Rattle.blocks.specs.Slots.{fits_header}

-- ---- what fits the header

fits_when : (t : Bool) (h n : ℕ) → leb h (124 - n) ≡ t → n ≤ 124 → t ≡ leb (n + h) 124
fits_when true h n e l = let k = leb-true h (124 - n) e in sym (le-leb (n + h) 124 (omega arith))
fits_when false h n e l = let k = leb-false h (124 - n) e in sym (lt-leb (n + h) 124 (omega arith))

pub fits_left : (h n : ℕ) → n ≤ 124 → leb h (124 - n) ≡ leb (n + h) 124
fits_left h n l = fits_when (leb h (124 - n)) h n refl l

-- ---- the plan, one law for each way through

module _ (to from entry h n lent : ℕ) where
  abbrev plan : Planned
  plan = plan_of to from entry h n lent

  pub reserved_to : 2 < to → no_plan 8 ≡ plan
  unfolding plan_of
  reserved_to a = rw (lt-leb to 2 a) refl

  pub reserved_from : to ≤ 2 → 2 < from → no_plan 8 ≡ plan
  unfolding plan_of
  reserved_from a b = rw (le-leb to 2 a, lt-leb from 2 b) refl

  pub unlisted : to ≤ 2 → from ≤ 2 → 254 < entry → no_plan 9 ≡ plan
  unfolding plan_of
  unlisted a b c = rw (le-leb to 2 a, le-leb from 2 b, lt-leb entry 254 c) refl

  module _ (a : to ≤ 2) (b : from ≤ 2) (e : entry < 255) where
    c : entry ≤ 254
    c = omega arith

    module _ (f : fits_header h n ≡ true) where
      pub whole_short : lent < 24 → no_plan 1 ≡ plan
      unfolding plan_of
      whole_short l = rw (le-leb to 2 a, le-leb from 2 b, le-leb entry 254 c, f, sub_self n, lt-leb 24 lent l) refl

      pub whole : 24 ≤ lent → record { fault = 0; fragmented = 0; inside = n; blocks = 0 } ≡ plan
      unfolding plan_of
      whole l =
          rw (le-leb to 2 a, le-leb from 2 b, le-leb entry 254 c, f, sub_self n, le-leb 24 lent l)
          (rw (f, sub_self n) refl)

    module _ (f : fits_header h n ≡ false) where
      pub too_long : 120 < h → no_plan 9 ≡ plan
      unfolding plan_of
      too_long l = rw (le-leb to 2 a, le-leb from 2 b, le-leb entry 254 c, f, lt-leb h 120 l) refl

      module _ (l : h ≤ 120) where
        abbrev rest : ℕ
        rest = n - (120 - h)

        abbrev blocks : ℕ
        blocks = (rest + 263) / 264

        pub too_many : 3960 < rest → no_plan 14 ≡ plan
        unfolding plan_of
        too_many r =
            rw (le-leb to 2 a, le-leb from 2 b, le-leb entry 254 c, f, le-leb h 120 l, lt-leb blocks 15 (omega arith))
            refl

        module _ (r : rest ≤ 3960) where
          pub cut_short : lent < 24 + 34 * blocks → no_plan 1 ≡ plan
          unfolding plan_of
          cut_short t =
              rw (
                le-leb to 2 a,
                le-leb from 2 b,
                le-leb entry 254 c,
                f,
                le-leb h 120 l,
                le-leb blocks 15 (omega arith),
                lt-leb (24 + 34 * blocks) lent t,
              ) refl

          pub cut : 24 + 34 * blocks ≤ lent
              → record { fault = 0; fragmented = 1; inside = 120 - h; blocks = blocks } ≡ plan
          unfolding plan_of
          cut t =
              rw (
                le-leb to 2 a,
                le-leb from 2 b,
                le-leb entry 254 c,
                f,
                le-leb h 120 l,
                le-leb blocks 15 (omega arith),
                le-leb (24 + 34 * blocks) lent t,
              ) (rw f refl)

      -- a message that does not fit is longer than what the header takes of it
      pub longer : 120 - h ≤ n
      longer = let g = leb-false (n + h) 124 f in omega arith

-- ---- the rules, one group after the other

refused_plan : (f h n : ℕ) → (f ≡ 0 → ⊥) → no_plan f ≡ plan_as f h n
refused_plan zero h n r = absurd (r refl)
refused_plan (suc f) h n r = refl

given_by : (a b : List ℕ) (h n : ℕ) {f : ℕ} → f ≡ first_of a → (f ≡ 0 → ⊥) → no_plan f ≡ plan_as (first_of (a ++ b)) h n
given_by a b h n {f} q r = refused_plan f h n r ∙ ap (λ (x : ℕ). plan_as x h n) (q ∙ sym (chain_given a b (rw q at r)))

module _ (y : Sync) (countdown : ℕ) (g : Fields) (n bytes lent : ℕ) where
  abbrev numbers : List ℕ
  numbers = number_rules y.system y.frame y.usage y.slot countdown g.mni g.message

  abbrev to_rules : List ℕ
  to_rules = address_rules g.destination.kind g.destination.ssi

  abbrev from_rules : List ℕ
  from_rules = address_rules g.source.kind g.source.ssi

  abbrev cuts : List ℕ
  cuts =
      header_rules g.destination.kind g.source.kind (entry_of g.message).width (header_bits g) n
      ++ length_rules (header_bits g) n lent

  abbrev from_run : List ℕ
  from_run = element_rules g.message g.width g.elements n bytes ++ cuts

  pub by_numbers : {f : ℕ} → f ≡ first_of numbers → (f ≡ 0 → ⊥) → no_plan f ≡ planned_of y countdown g n bytes lent
  unfolding planned_of build_fault
  by_numbers q r = given_by numbers (to_rules ++ (from_rules ++ from_run)) (header_bits g) n q r

  module _ (a : first_of numbers ≡ 0) where
    after_numbers : plan_as (first_of (to_rules ++ (from_rules ++ from_run))) (header_bits g) n
        ≡ planned_of y countdown g n bytes lent
    unfolding planned_of build_fault
    after_numbers =
        ap (λ (x : ℕ). plan_as x (header_bits g) n) (sym (chain_none numbers (to_rules ++ (from_rules ++ from_run)) a))

    pub by_to : {f : ℕ} → f ≡ first_of to_rules → (f ≡ 0 → ⊥) → no_plan f ≡ planned_of y countdown g n bytes lent
    by_to q r = given_by to_rules (from_rules ++ from_run) (header_bits g) n q r ∙ after_numbers

    module _ (b : first_of to_rules ≡ 0) where
      after_to : plan_as (first_of (from_rules ++ from_run)) (header_bits g) n ≡ planned_of y countdown g n bytes lent
      after_to =
          ap (λ (x : ℕ). plan_as x (header_bits g) n) (sym (chain_none to_rules (from_rules ++ from_run) b))
          ∙ after_numbers

      pub by_from : {f : ℕ} → f ≡ first_of from_rules → (f ≡ 0 → ⊥) → no_plan f ≡ planned_of y countdown g n bytes lent
      by_from q r = given_by from_rules from_run (header_bits g) n q r ∙ after_to

      module _ (c : first_of from_rules ≡ 0) where
        after_from : plan_as (first_of from_run) (header_bits g) n ≡ planned_of y countdown g n bytes lent
        after_from = ap (λ (x : ℕ). plan_as x (header_bits g) n) (sym (chain_none from_rules from_run c)) ∙ after_to

        pub by_run : run_fits g.message g.width g.elements ≡ false
            → no_plan 13 ≡ planned_of y countdown g n bytes lent
        by_run e = rw e at after_from

        pub by_lent : run_fits g.message g.width g.elements ≡ true → leb n (8 * bytes) ≡ false
            → no_plan 13 ≡ planned_of y countdown g n bytes lent
        by_lent e l = rw (e, l) at after_from

        pub by_cut : run_fits g.message g.width g.elements ≡ true → leb n (8 * bytes) ≡ true
            → plan_of g.destination.kind g.source.kind (entry_of g.message).width (header_bits g) n lent
            ≡ planned_of y countdown g n bytes lent
        unfolding plan_of
        by_cut e l = rw (e, l) at after_from
