-- Demand 1. Each call takes every number and every lent byte, ends, and answers with a numbered outcome. A refused
-- call changes neither the receiver nor a lent buffer. Nobody has to check first.
-- That a call ends, and takes whatever it is given, is in its proof: none of these asks for anything but `hear`, which
-- asks for a receiver that `fresh` or an earlier `hear` gave. What is lent to be read is never written: that is its
-- type. The functions of src/ make these calls, and ensure what is said here of them.
use Rattle.std.specs.Prelude.{◌≡◌, ◌↔◌, List, [], ◌∷◌, ◌++◌, ℕ, suc, ◌≤◌, length}
use Rattle.bits.specs.Bits.{bits_of}
use Rattle.blocks.specs.Faults.{unless, first_of, GivenFirst}
use Rattle.blocks.specs.Sync.{sync_of, sync_checks}
use Rattle.blocks.specs.Header.{place_rules, body_checks, refused_header, read_header, read_reported}
use Rattle.blocks.specs.Continuation.{continuation_checks, refused_block, read_continuation}
use Rattle.blocks.specs.Slots.{due_checks, due_frame, due_of}
use Rattle.blocks.specs.declared.header.Header.{Header}
use Rattle.blocks.specs.declared.continuation.Continuation.{Continuation}
use Rattle.blocks.specs.declared.slots.Due.{Due}
use Rattle.build.specs.declared.Built.{Built}
use Rattle.reports.specs.Lent.{report_rules, fault_in, OfReading}
use Rattle.reports.specs.Units.{settings_fit, unit}
use Rattle.receiver.specs.View.{plain_answer, new_receiver, fresh_of}
use Rattle.receiver.specs.declared.Fresh.{Fresh}
use Rattle.demands.specs.Demand2 as build
use Rattle.demands.specs.Calls.{HearCall, Made, answer}

-- A call's rules in the document's order, each with its number; the fault that the call answers; and what else holds
-- of the call when it is refused with a number. The fault is 0 exactly when every rule holds, and otherwise the
-- number of the first that does not.
pub record Settles (rules : List ℕ) (fault : ℕ) (Refused : ℕ → Type 0) : Type 0 where
  pub first : fault ≡ first_of rules
  pub given : (n : ℕ) → fault ≡ suc n → GivenFirst n rules
  pub refused : (n : ℕ) → fault ≡ suc n → Refused (suc n)

-- Reading a header: 1, 2 (both blocks), 3 to 7, 10, 8, 9, 11; in a report 18 comes after 7. Refused, all but the number
-- is 0.
abbrev pub Reads : List ℕ → List ℕ → Header → Type 0
Reads s h r = Settles (sync_checks s h ++ body_checks (bits_of h)) r.fault (λ f. r ≡ refused_header f)

abbrev pub ReadsReported : ℕ → ℕ → List ℕ → List ℕ → Header → Type 0
ReadsReported frame slot s h r =
    Settles (sync_checks s h ++ (place_rules frame slot (sync_of (bits_of s)) ++ body_checks (bits_of h))) r.fault
    (λ f. r ≡ refused_header f)

-- Reading a continuation: 1, 2, 12, 11.
abbrev pub ReadsBlock : List ℕ → Continuation → Type 0
ReadsBlock b r = Settles (continuation_checks b) r.fault (λ f. r ≡ refused_block f)

-- The layout: 7, 13, 14; otherwise the block's frame.
pub record LaysOut (x f i : ℕ) (r : Due) : Type 0 where
  pub settled : Settles (due_checks x f i) r.fault (λ n. r ≡ record { fault = n; frame = 0 })
  pub frame : r.fault ≡ 0 → r.frame ≡ due_frame x f i
  pub not_18 : r.frame ≤ 17

-- Building: 3, 7, 13, 8, 9, 14, 1. Refused, every byte of the output is as it was.
abbrev pub SettlesBuild : build.Call → Built → List ℕ → Type 0
SettlesBuild c r after =
    Settles (build.checks c) r.fault (λ f. (r ≡ record { fault = f; blocks = 0 }) × (after ≡ c.out))

-- A fresh receiver: 13 where a setting is 2^24 or more. Refused, its settings are three zeros; otherwise they are those
-- given.
pub record Begins (individual group mni : ℕ) (r : Fresh) : Type 0 where
  pub settled : Settles (unless (settings_fit individual group mni) 13 ∷ []) r.fault
      (λ f. r ≡ record { fault = f; receiver = new_receiver 0 0 0 })
  pub settings : r.fault ≡ 0 → r.receiver.settings ≡ unit individual group mni

-- The rules of a report: 15, 16, 1, 17.
abbrev pub rules : HearCall → List ℕ
rules c = let l = c.report in report_rules l.frame l.slot l.kind (length l.blocks) (length c.old)

-- A refused report: outcome 0, nothing dropped, the number, no bits and no fields, nothing lost; the receiver and the
-- buffer are as before.
pub record ReportRefused (c : HearCall) (number : ℕ) : Type 0 where
  pub answer : answer c ≡ plain_answer 0 0 number
  pub receiver : c.reply.receiver ≡ c.before
  pub buffer : c.new ≡ c.old

-- A report that is accepted has one of six outcomes, and the fault that reading its blocks gives.
pub record ReportAccepted (c : HearCall) : Type 0 where
  pub outcome : (answer c).outcome ≤ 5
  pub dropped : (answer c).dropped ≤ 1
  pub fault : (answer c).fault ≡ fault_in c.report

-- Hearing a report. It is refused with the number of the first rule that does not hold, and accepted where all hold;
-- the fault tells which: the one of an accepted report is never 1 or 13 to 17.
pub record SettlesReport (c : HearCall) : Type 0 where
  pub refused : (n : ℕ) → GivenFirst n (rules c) → ReportRefused c (suc n)
  pub accepted : first_of (rules c) ≡ 0 → ReportAccepted c
  pub told_apart : (first_of (rules c) ≡ 0) ↔ OfReading (answer c).fault

pub record Demand1 : Type 0 where
  pub header : (s h : List ℕ) → Reads s h (read_header s h)
  pub reported : (frame slot : ℕ) (s h : List ℕ) → ReadsReported frame slot s h (read_reported frame slot s h)
  pub continuation : (b : List ℕ) → ReadsBlock b (read_continuation b)
  pub layout : (x f i : ℕ) → LaysOut x f i (due_of x f i)
  pub builds : (c : build.Call) → SettlesBuild c (build.answer c) (build.after c)
  pub fresh : (individual group mni : ℕ) → Begins individual group mni (fresh_of individual group mni)
  pub report : (c : HearCall) → Made c → SettlesReport c
