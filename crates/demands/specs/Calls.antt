-- The calls that a program makes of one receiver. `fresh` promises `fresh_of`, `hear` promises `Hears`; it asks for a
-- receiver that `fresh` or an earlier `hear` gave, and nothing else.
use Rattle.std.specs.Prelude.{◌≡◌, List, ℕ, zero, suc}
use Rattle.history.specs.Line.{Line, start, ◌▸◌, ◌⧺◌}
use Rattle.history.specs.Slots.{Report}
use Rattle.history.specs.History.{History}
use Rattle.reports.specs.Lent.{Lent, Event}
use Rattle.reports.specs.declared.unit.Settings.{Settings}
use Rattle.receiver.specs.View.{fresh_of}
use Rattle.receiver.specs.Reached.{report_of, reports, refused_with, Hears}
use Rattle.receiver.specs.declared.answer.Answer.{Answer}
use Rattle.receiver.specs.declared.Receiver.{Receiver}
use Rattle.receiver.specs.declared.Reply.{Reply}
use Rattle.receiver.specs.declared.Fresh.{Fresh}

-- From a fresh receiver, with any settings, through any reports, refused ones too: its settings, the accepted reports,
-- oldest first, and the receiver now.
pub data Calls : Settings → Line Event → Receiver → Type 0 where
  begun : (individual group mni : ℕ) (f : Fresh) → f ≡ fresh_of individual group mni
      → Calls f.receiver.settings start f.receiver
  refused : {s : Settings} {ls : Line Event} {before : Receiver} → Calls s ls before
      → (l : Lent) (r : Reply) (old new : List ℕ) → Hears before l r old new
      → (n : ℕ) → refused_with l old ≡ suc n → Calls s ls r.receiver
  accepted : {s : Settings} {ls : Line Event} {before : Receiver} → Calls s ls before
      → (l : Lent) (r : Reply) (old new : List ℕ) → Hears before l r old new
      → refused_with l old ≡ 0 → Calls s (ls ▸ l) r.receiver

-- A call of `hear`: the settings of its receiver, the accepted reports before it, oldest first, and the receiver as it
-- was; the report, the reply, and the lent buffer before and after.
pub record HearCall : Type 0 where
  pub settings : Settings
  pub earlier : Line Event
  pub before : Receiver
  pub report : Lent
  pub reply : Reply
  pub old : List ℕ
  pub new : List ℕ

-- The call was made: its receiver came of such calls, and `hear` did what it promises.
pub record Made (c : HearCall) : Type 0 where
  pub calls : Calls c.settings c.earlier c.before
  pub hears : Hears c.before c.report c.reply c.old c.new

-- The accepted reports before it, and its own, as they read; the answer.
abbrev pub history : HearCall → History
history c = reports c.settings c.earlier

abbrev pub current : HearCall → Report
current c = report_of c.settings c.report

abbrev pub answer : HearCall → Answer
answer c = c.reply.answer

-- The number that it is refused with; 0 where its report is accepted.
abbrev pub refusal : HearCall → ℕ
refusal c = refused_with c.report c.old

-- The accepted reports after it: its own is one more of them where it is accepted.
abbrev pub heard_after : ℕ → HearCall → Line Event
heard_after zero c = c.earlier ▸ c.report
heard_after (suc n) c = c.earlier

-- The call was made, and its report accepted.
pub record Taken (c : HearCall) : Type 0 where
  pub made : Made c
  pub accepted : refusal c ≡ 0

-- Calls for one receiver, one after another, each with an accepted report: the reports before them, theirs, and the
-- calls.
pub data Series (s : Settings) (before : Line Event) : Line Event → Line HearCall → Type 0 where
  none : Series s before start start
  one_more : {ls : Line Event} {cs : Line HearCall} → Series s before ls cs → (c : HearCall) → Taken c
      → c.settings ≡ s → c.earlier ≡ before ⧺ ls → Series s before (ls ▸ c.report) (cs ▸ c)
