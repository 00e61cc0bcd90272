-- What the calls promise: the receiver is a function of its settings and of the accepted reports, and the answer is
-- the one that these ask for.
use Rattle.std.specs.Prelude.{◌≡◌, ◌↔◌, Bool, true, List, ℕ, suc, ◌≤◌, length}
use Rattle.store.specs.Store.{store_of, handed}
use Rattle.blocks.specs.Faults.{first_of}
use Rattle.history.specs.Line.{Line, ◌▸◌, each, Every}
use Rattle.history.specs.Slots.{Report}
use Rattle.history.specs.History.{History, Told, Drops, LostTold}
use Rattle.history.specs.Step.{after}
use Rattle.history.specs.declared.Near.{Near}
use Rattle.history.specs.declared.Nears.{Nears}
use Rattle.reports.specs.Lent.{Lent, Event, report_rules, heard, fault_in}
use Rattle.reports.specs.Nears.{nears_of}
use Rattle.reports.specs.Units.{settings_fit}
use Rattle.reports.specs.declared.unit.Settings.{Settings}
use Rattle.receiver.specs.View.{empty_assembly, receiver_of, plain_answer}
use Rattle.receiver.specs.declared.assembly.Assembly.{Assembly}
use Rattle.receiver.specs.declared.Receiver.{Receiver}
use Rattle.receiver.specs.declared.Reply.{Reply}

-- A report for a unit with these settings, read; and a list of them.
abbrev pub report_of : Settings → Lent → Report
report_of s l = record { place = record { frame = l.frame; slot = l.slot }; heard = heard s l }

abbrev pub reports : Settings → Line Event → History
reports s ls = each (report_of s) ls

-- The number that a report is refused with, 0 where it is accepted, and a report that is accepted with a buffer that
-- is long enough.
abbrev pub refused_with : Lent → List ℕ → ℕ
refused_with l buffer = first_of (report_rules l.frame l.slot l.kind (length l.blocks) (length buffer))

abbrev pub Accepted : Lent → Type 0
Accepted l = first_of (report_rules l.frame l.slot l.kind (length l.blocks) 512) ≡ 0

-- The receiver with these settings that has heard these reports.
abbrev pub receiver_at : Settings → Line Event → Receiver
receiver_at s ls = receiver_of s (after (reports s ls))

-- Settings and a list of accepted reports that lead to this receiver.
pub record Leads (s : Settings) (ls : Line Event) (r : Receiver) : Type 0 where
  pub fit : settings_fit s.individual s.group s.mni ≡ true
  pub accepted : Every Accepted ls
  pub there : r ≡ receiver_at s ls

-- A receiver that `fresh` or an earlier `hear` gave.
pub record Reached (r : Receiver) : Type 0 where
  pub settings : Settings
  pub heard : Line Event
  pub leads : Leads settings heard r

-- What such a receiver holds: no assembly, and then all of it is zero; or an open one, with a block still due of at
-- most fifteen, and its store is the joined bits, at most 4,096, and zero beyond them.
pub data Canonical (a : Assembly) : Type 0 where
  closed : a ≡ empty_assembly → Canonical a
  assembling : (joined : List Bool) → a.run.held ≡ 1 → a.run.kept ≤ a.run.more → a.run.more ≤ 14
      → a.bits ≡ length joined
      → length joined ≤ 4096 → a.store ≡ store_of joined → Canonical a

-- And its earlier headers: at most seven, which stand first, and zero after them.
pub record Listed (n : Nears) : Type 0 where
  pub near : List Near
  pub few : length near ≤ 7
  pub places : n ≡ nears_of near

-- The reply to an accepted report, and the lent buffer, before and after.
pub record Answered (s : Settings) (ls : Line Event) (l : Lent) (r : Reply) (old new : List ℕ) : Type 0 where
  pub message : List Bool
  pub told : Told (reports s ls) (report_of s l) r.answer.outcome r.answer.fields message
  pub bits : r.answer.bits ≡ length message
  pub buffer : new ≡ handed message old
  pub dropped : (r.answer.dropped ≡ 1) ↔ Drops (reports s ls) (report_of s l)
  pub mark : r.answer.dropped ≤ 1
  pub lost : LostTold (reports s ls) (report_of s l) r.answer.lost
  pub fault : r.answer.fault ≡ fault_in l
  pub receiver : r.receiver ≡ receiver_at s (ls ▸ l)

-- A refused report has not happened: the receiver and the buffer are as they were, and the answer is the number.
pub record Refused (before : Receiver) (number : ℕ) (r : Reply) (old new : List ℕ) : Type 0 where
  pub answer : r.answer ≡ plain_answer 0 0 number
  pub receiver : r.receiver ≡ before
  pub buffer : new ≡ old

-- What `hear` answers, for all settings and reports that lead to the receiver.
pub record Hears (before : Receiver) (l : Lent) (r : Reply) (old new : List ℕ) : Type 0 where
  pub refused : (n : ℕ) → refused_with l old ≡ suc n → Refused before (suc n) r old new
  pub answered : (s : Settings) (ls : Line Event) → Leads s ls before → refused_with l old ≡ 0
      → Answered s ls l r old new
