-- What the history asks for, of each reply to a slot log. `Told`, `Drops` and `LostTold` are read off the accepted
-- reports, in crates/history/specs/History.antt; nothing here runs the step.
use Rattle.std.specs.Prelude.{◌≡◌, ◌↔◌, ◌⊎◌, Bool, List, [], ◌∷◌, ℕ, suc, ◌≤◌, length}
use Rattle.history.specs.Line.{Line}
use Rattle.history.specs.History.{Told, Drops, LostTold}
use Rattle.reports.specs.Lent.{Lent, Event, OfReading, fault_in}
use Rattle.reports.specs.declared.unit.Settings.{Settings}
use Rattle.receiver.specs.View.{plain_answer}
use Rattle.receiver.specs.Reached.{report_of, reports}
use Rattle.receiver.specs.declared.answer.Answer.{Answer}
use Rattle.slotlog.specs.Replies.{refusal, heard_when, LogReply, to_report, to_other, to_cut}

-- The answer to a report that is accepted, for a unit with these settings that has heard these reports, is the one that
-- the history asks for.
pub record AnswerAsked (s : Settings) (ls : Line Event) (l : Lent) (a : Answer) : Type 0 where
  pub message : List Bool
  pub told : Told (reports s ls) (report_of s l) a.outcome a.fields message
  pub bits : a.bits ≡ length message
  pub dropped : (a.dropped ≡ 1) ↔ Drops (reports s ls) (report_of s l)
  pub mark : a.dropped ≤ 1
  pub lost : LostTold (reports s ls) (report_of s l) a.lost
  pub fault : a.fault ≡ fault_in l

-- The fault of a line: one that reading a block may give, or 0; or 15 or 16. No record of another length than its
-- kind's is a report, and the buffer is long enough, so that no report of a log is refused with 1 or 17.
abbrev pub InLine : ℕ → Type 0
InLine n = OfReading n ⊎ ((n ≡ 15) ⊎ (n ≡ 16))

-- The answer to a report: to one that is refused it is the number, and zeros.
pub record Asked (s : Settings) (ls : Line Event) (l : Lent) (a : Answer) : Type 0 where
  pub accepted : refusal l ≡ 0 → AnswerAsked s ls l a
  pub refused : (n : ℕ) → refusal l ≡ suc n → a ≡ plain_answer 0 0 (suc n)
  pub fault : InLine a.fault

-- Each of the replies, one after another, for a unit with these settings that has heard these reports: a reply to a
-- report is for this unit and these reports, and its answer is the one asked for; a report that is accepted was heard
-- when the next reply is given.
abbrev pub AllAsked : Settings → Line Event → List LogReply → Type 0
AllAsked s ls [] = Unit {0}
AllAsked s ls (to_report t ks l a ∷ rs) =
    (t ≡ s) × (ks ≡ ls) × Asked s ls l a × AllAsked s (heard_when (refusal l) ls l) rs
AllAsked s ls (to_other ∷ rs) = AllAsked s ls rs
AllAsked s ls (to_cut ∷ rs) = AllAsked s ls rs
