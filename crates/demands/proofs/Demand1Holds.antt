-- Demand 1 holds. Assumes nothing.
use mathlib.Core.Path.{◌≡◌, refl, sym, ap, subst, subst⁻¹, ◌∙◌}
use mathlib.Core.Bool.{Bool, true, false, cond}
use mathlib.Core.List.{List, [], ◌∷◌, ◌++◌}
use Prim.Native.Nat.{ℕ, zero, suc, ◌≤◌}
use native.Mathlib.Omega.{arith}
use lib.ListN.{length}
use Rattle.bits.specs.Bits.{bits_of}
use Rattle.blocks.specs.Faults.{unless, first_of, AllZero}
use Rattle.blocks.specs.Sync.{sync_of, sync_checks}
use Rattle.blocks.specs.Header as header
use Rattle.blocks.specs.Continuation as block
use Rattle.blocks.specs.Slots.{due_checks, due_frame, due_at, due_of}
use Rattle.build.specs.Plan.{blocks_for, build_fault}
use Rattle.build.specs.Build.{built_as, build_of, out_of}
use Rattle.blocks.proofs.FaultLaws.{given_first}
use Rattle.blocks.proofs.SlotLaws.{due_range}
use Rattle.reports.specs.Lent.{OfReading}
use Rattle.reports.specs.Units.{settings_fit, unit}
use Rattle.reports.proofs.FaultLaws.{reading_fault, refusal_apart}
use Rattle.receiver.specs.View.{new_receiver}
use Rattle.receiver.specs.declared.Fresh.{Fresh}
use Rattle.receiver.specs.declared.answer.Answer.{Answer}
use Rattle.receiver.proofs.AcceptedLaws.{passes}
use Rattle.demands.specs.Calls.{HearCall, Made, answer, Taken}
use Rattle.demands.specs.Demand1.{Settles, rules, ReportRefused, SettlesReport, Demand1}
use Rattle.demands.specs.Demand2 as build
use Rattle.demands.proofs.Demand3Holds.{answers, demand3}

-- a call whose fault is the first number given
pub settles : (rules : List ℕ) {fault : ℕ} {Refused : ℕ → Type 0} → fault ≡ first_of rules
    → ((n : ℕ) → first_of rules ≡ suc n → Refused (suc n)) → Settles rules fault Refused
settles rules e r =
    record { first = e; given = λ n z. given_first n rules (sym e ∙ z); refused = λ n z. r n (sym e ∙ z) }

-- a fault that is the number it is given, by cases
pub number_is : (f : ℕ → ℕ) → f 0 ≡ 0 → ((n : ℕ) → f (suc n) ≡ suc n) → (n : ℕ) → f n ≡ n
number_is f z s zero = z
number_is f z s (suc n) = s n

abbrev fresh_when : ℕ → ℕ → ℕ → Bool → Fresh
fresh_when individual group mni b =
    cond b (record { fault = 0; receiver = new_receiver individual group mni })
    (record { fault = 13; receiver = new_receiver 0 0 0 })

fresh_fault : (individual group mni : ℕ) (b : Bool)
    → (fresh_when individual group mni b).fault ≡ first_of (unless b 13 ∷ [])
fresh_fault individual group mni true = refl
fresh_fault individual group mni false = refl

fresh_refused : (individual group mni : ℕ) (b : Bool) (n : ℕ) → first_of (unless b 13 ∷ []) ≡ suc n
    → fresh_when individual group mni b ≡ record { fault = suc n; receiver = new_receiver 0 0 0 }
fresh_refused individual group mni true n e = absurd (omega arith)
fresh_refused individual group mni false n e = rw (← e) refl

-- the settings of a receiver that is given
fresh_settings : (individual group mni : ℕ) (b : Bool) → (fresh_when individual group mni b).fault ≡ 0
    → (fresh_when individual group mni b).receiver.settings ≡ unit individual group mni
fresh_settings individual group mni true e = refl
fresh_settings individual group mni false e = absurd (omega (arith, e))

-- a frame that is given, and one that is not
due_given : (n frame : ℕ) → (due_at n frame).fault ≡ 0 → (due_at n frame).frame ≡ frame
due_given zero frame e = refl
due_given (suc n) frame e = absurd (omega (arith, e))

due_few : (n frame : ℕ) → frame ≤ 17 → (due_at n frame).frame ≤ 17
due_few zero frame l = l
due_few (suc n) frame l = omega arith

-- the number that is given first is the first number given
first_given : (n : ℕ) (passed others : List ℕ) → AllZero passed → first_of (passed ++ suc n ∷ others) ≡ suc n
first_given n [] others z = refl
first_given n (zero ∷ ns) others z = first_given n ns others z.1
first_given n (suc m ∷ ns) others z = absurd (omega (arith, z.0))

-- ---- hearing a report

settles_report : (c : HearCall) → Made c → SettlesReport c
settles_report c m =
    record {
      refused = λ n g. refused n (ap first_of g.split ∙ first_given n g.passed g.others g.holding);
      accepted = λ e.
          let a = answers c (taken e) in record { outcome = a.six; dropped = a.mark; fault = a.fault };
      told_apart = (
        λ e.
            subst⁻¹ OfReading (answers c (taken e)).fault
            (reading_fault c.report (passes c.report c.old e).1),
        accepts (first_of (rules c)) refl,
      );
    }
  where
    taken : first_of (rules c) ≡ 0 → Taken c
    taken e = record { made = m; accepted = e }

    refused : (n : ℕ) → first_of (rules c) ≡ suc n → ReportRefused c (suc n)
    refused n e = let (a, r, b) = demand3.refused c m n e in record { answer = a; receiver = r; buffer = b }

    accepts : (n : ℕ) → first_of (rules c) ≡ n → OfReading (answer c).fault → first_of (rules c) ≡ 0
    accepts zero e o = e
    accepts (suc n) e o =
        let l = c.report in
        let z : (answer c).fault ≡ suc n = ap (λ (a : Answer). a.fault) (refused n e).answer in
        absurd (refusal_apart l.frame l.slot l.kind (length l.blocks) (length c.old) n e
        (subst OfReading z o))

pub demand1 : Demand1
unfolding header.read_header header.read_reported block.read_continuation due_of build_of out_of build_fault
demand1 =
    record {
      header = λ s h.
          let rules = sync_checks s h ++ header.body_checks (bits_of h) in
          let r = header.header_of (sync_of (bits_of s)) (bits_of h) in
          settles rules (number_is (λ n. (header.answered n r).fault) refl (λ n. refl) (first_of rules))
          (λ n e. rw e refl);
      reported = λ frame slot s h.
          let place = header.place_rules frame slot (sync_of (bits_of s)) in
          let rules = sync_checks s h ++ (place ++ header.body_checks (bits_of h)) in
          let r = header.header_of (sync_of (bits_of s)) (bits_of h) in
          settles rules (number_is (λ n. (header.answered n r).fault) refl (λ n. refl) (first_of rules))
          (λ n e. rw e refl);
      continuation = λ b.
          let rules = block.continuation_checks b in
          let r = block.continuation_of (bits_of b) in
          settles rules (number_is (λ n. (block.answered n r).fault) refl (λ n. refl) (first_of rules))
          (λ n e. rw e refl);
      layout = λ x f i.
          let rules = due_checks x f i in
          let frame = due_frame x f i in
          record {
            settled =
                settles rules (number_is (λ n. (due_at n frame).fault) refl (λ n. refl) (first_of rules))
                (λ n e. rw e refl);
            frame = due_given (first_of rules) frame;
            not_18 = due_few (first_of rules) frame (due_range x f i).1;
          };
      builds = λ c.
          let rules = build.checks c in
          let k = blocks_for c.fields c.n in
          settles rules (number_is (λ n. (built_as n k).fault) refl (λ n. refl) (first_of rules))
          (λ n e. (rw e refl, rw e refl));
      fresh = λ individual group mni.
          let b = settings_fit individual group mni in
          record {
            settled =
                settles (unless b 13 ∷ []) (fresh_fault individual group mni b)
                (fresh_refused individual group mni b);
            settings = fresh_settings individual group mni b;
          };
      report = settles_report;
    }
