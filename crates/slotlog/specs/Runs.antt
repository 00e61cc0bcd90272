-- A run over a log that comes in parts, as a function of the unit's settings, the reports that it has heard, the part
-- of the log and the room for its lines.
use Rattle.std.specs.Prelude.{◌≡◌, Bool, true, false, cond, ◌&&◌, List, [], ◌∷◌, ◌++◌, ℕ, zero, suc, ◌+◌, ◌-◌, ◌≤◌}
use Rattle.std.specs.Prelude.{eqb, leb, length, drop}
use Rattle.std.proofs.Math.Option.{Option, none, some}
use Rattle.text.specs.Text.{Wrote}
use Rattle.history.specs.Line.{Line}
use Rattle.reports.specs.Lent.{Lent, Event}
use Rattle.reports.specs.declared.unit.Settings.{Settings}
use Rattle.receiver.specs.Reached.{receiver_at, Leads, Reached}
use Rattle.receiver.specs.declared.Receiver.{Receiver}
use Rattle.receiver.specs.declared.Reply.{Reply}
use Rattle.slotlog.specs.Log.{next_in, report_in, entries}
use Rattle.slotlog.specs.Replies.{refusal, answer_when, heard_when, LogReply, to_report, to_other, to_cut, replies_of}
use Rattle.slotlog.specs.Print.{line_of, kind_line, cut_line, lines_of}
use Rattle.slotlog.specs.declared.log.Next.{Next}
use Rattle.slotlog.specs.declared.log.Next.TheVariants as next
use Rattle.slotlog.specs.declared.replies.Shown.{Shown}
use Rattle.slotlog.specs.declared.replies.Shown.TheVariants.{Report, Other, Cut, Wants}
use Rattle.slotlog.specs.declared.replies.NextReply.{NextReply}
use Rattle.slotlog.specs.declared.run.Run.{Run}
use Rattle.slotlog.specs.declared.run.State.{State}
use Rattle.slotlog.specs.declared.run.State.TheVariants as state

-- ---- The next record.

-- The answer of a receiver to a report, and the receiver after it, for all settings and reports that lead to it.
pub record AnswersAs (s : Settings) (ls : Line Event) (l : Lent) (x : Reply) : Type 0 where
  pub answer : x.answer ≡ answer_when (refusal l) s ls l
  pub leads : Leads s (heard_when (refusal l) ls l) x.receiver

pub record Answers (before : Receiver) (l : Lent) (x : Reply) : Type 0 where
  pub reached : Reached x.receiver
  pub answers : (s : Settings) (ls : Line Event) → Leads s ls before → AnswersAs s ls l x

-- After a record: the accepted reports, the bytes that it took, and what is shown of its reply.
pub record Passed : Type 0 where
  pub heard : Line Event
  pub took : ℕ
  pub shown : Shown

-- What stands next in `rest`, for a unit with these settings that has heard these reports.
abbrev pub passing : Settings → Line Event → List ℕ → Next → Passed
passing s ls rest next.End = record { heard = ls; took = 0; shown = Wants }
passing s ls rest next.Part = record { heard = ls; took = 0; shown = Wants }
passing s ls rest next.Cut = record { heard = ls; took = 0; shown = Cut }
passing s ls rest (next.Other n) = record { heard = ls; took = n; shown = Other }
passing s ls rest (next.Report n) =
    let l = report_in n rest in
    record {
      heard = heard_when (refusal l) ls l;
      took = n;
      shown = Report l.frame l.slot (answer_when (refusal l) s ls l);
    }

unfoldable pub passed : Settings → Line Event → List ℕ → Passed
passed s ls rest = passing s ls rest (next_in rest)

-- The answer of `replies::next` that says so, and what it promises, for all settings and reports that lead to the
-- receiver.
abbrev pub reply_at : Settings → Passed → NextReply
reply_at s p = record { receiver = receiver_at s p.heard; took = p.took; shown = p.shown }

pub record Replies (before : Receiver) (rest : List ℕ) (x : NextReply) : Type 0 where
  pub reached : Reached x.receiver
  pub settled : (s : Settings) (ls : Line Event) → Leads s ls before → x ≡ reply_at s (passed s ls rest)

-- ---- Record after record.

-- The state of a run after a reply, and the reply's line.
abbrev pub state_of : Shown → State
state_of (Report frame slot a) = state.GoesOn
state_of Other = state.GoesOn
state_of Cut = state.Cut
state_of Wants = state.Wants

abbrev pub shown_line : Shown → List ℕ
shown_line (Report frame slot a) = line_of frame slot a
shown_line Other = kind_line
shown_line Cut = cut_line
shown_line Wants = []

-- How far a run has come: the accepted reports, the bytes of the log that were read, the text that was written, and the
-- state.
pub record Stage : Type 0 where
  pub heard : Line Event
  pub read : ℕ
  pub text : List ℕ
  pub state : State

-- With the next record.
abbrev pub onward : Stage → Passed → Stage
onward x p =
    record {
      heard = p.heard;
      read = x.read + p.took;
      text = x.text ++ shown_line p.shown;
      state = state_of p.shown;
    }

-- There is room for a line where 128 bytes of the output are left.
abbrev pub has_room : ℕ → ℕ → Bool
has_room room written = leb 128 (room - written)

-- A run goes on in state `GoesOn`, where there is room for a line.
abbrev pub goes_on : State → Bool
goes_on state.GoesOn = true
goes_on state.Wants = false
goes_on state.Cut = false

abbrev pub turn : Settings → List ℕ → ℕ → Stage → Stage
turn s log room x =
    cond (goes_on x.state && has_room room (length x.text))
    (onward x (passed s x.heard (drop x.read log))) x

-- At most so many turns.
unfoldable pub turns : ℕ → Settings → List ℕ → ℕ → Stage → Stage
turns zero s log room x = x
turns (suc k) s log room x = turns k s log room (turn s log room x)

-- The run over `log`, with so much room for its lines: each record takes a byte and more, and at the end there is one
-- turn more.
abbrev pub run_over : Settings → Line Event → List ℕ → ℕ → Stage
run_over s ls log room =
    turns (suc (length log)) s log room (record { heard = ls; read = 0; text = []; state = state.GoesOn })

-- The answer of `Run::over` that says how far it came, and the output after it.
abbrev pub run_at : Settings → Stage → Run
run_at s x =
    record { receiver = receiver_at s x.heard; read = x.read; written = length x.text; state = x.state }

pub record RanAs (s : Settings) (x : Stage) (old : List ℕ) (r : Run) (new : List ℕ) : Type 0 where
  pub answer : r ≡ run_at s x
  pub output : new ≡ x.text ++ drop (length x.text) old

-- What it promises, for all settings and reports that lead to the receiver; neither count is beyond its end.
pub record Ran (before : Receiver) (log old : List ℕ) (r : Run) (new : List ℕ) : Type 0 where
  pub reached : Reached r.receiver
  pub settled : (s : Settings) (ls : Line Event) → Leads s ls before
      → RanAs s (run_over s ls log (length old)) old r new
  pub inside : r.read ≤ length log
  pub room : r.written ≤ length new

-- One record of it: what follows `x`, for all settings and reports that lead to its receiver; a line has at most 128
-- bytes.
pub record OneAs (s : Settings) (p : Passed) (x : Run) (old : List ℕ) (r : Run) (new : List ℕ) : Type 0 where
  pub receiver : r.receiver ≡ receiver_at s p.heard
  pub read : r.read ≡ x.read + p.took
  pub state : r.state ≡ state_of p.shown
  pub wrote : Wrote old x.written (shown_line p.shown) new r.written

pub record One (rest : List ℕ) (x : Run) (old : List ℕ) (r : Run) (new : List ℕ) : Type 0 where
  pub reached : Reached r.receiver
  pub settled : (s : Settings) (ls : Line Event) → Leads s ls x.receiver → OneAs s (passed s ls rest) x old r new
  pub few : r.written ≤ x.written + 128

-- ---- What a run means, whatever follows.

-- What is still heard where the log ends in the middle of a run: a record that is cut where bytes are left over.
abbrev pub end_reply : List ℕ → List LogReply
end_reply left = cond (eqb (length left) 0) [] (to_cut ∷ [])

-- What is printed of it.
abbrev pub end_line : List ℕ → List ℕ
end_line left = cond (eqb (length left) 0) [] cut_line

-- After a record that is cut nothing is heard.
abbrev pub unless_cut : {A : Type 0} → State → List A → List A
unless_cut state.GoesOn more = more
unless_cut state.Wants more = more
unless_cut state.Cut more = []

-- A run from `rest` to `left`, for a unit with these settings that had heard the reports `ls` and then has heard
-- `heard`: these were the replies, and so are the replies to whatever follows.
pub record Goes (s : Settings) (ls : Line Event) (rest : List ℕ) (said : List LogReply) (left : List ℕ)
    (heard : Line Event) (at : State) : Type 0 where
  pub replies : (more : List ℕ)
      → replies_of s ls (entries (rest ++ more)) ≡ said ++ unless_cut at (replies_of s heard (entries (left ++ more)))
  pub ends : at ≡ state.Wants → replies_of s heard (entries left) ≡ end_reply left

-- What is shown of the next reply, where there is one.
abbrev pub shown_as : Option LogReply → Shown
shown_as none = Wants
shown_as (some (to_report s ls l a)) = Report l.frame l.slot a
shown_as (some to_other) = Other
shown_as (some to_cut) = Cut

abbrev pub only : {A : Type 0} → Option A → List A
only none = []
only (some x) = x ∷ []

-- The next record of `rest`: its reply.
pub record RepliesAs (s : Settings) (ls : Line Event) (rest : List ℕ) (p : Passed) : Type 0 where
  pub reply : Option LogReply
  pub shown : p.shown ≡ shown_as reply
  pub goes : Goes s ls rest (only reply) (drop p.took rest) p.heard (state_of p.shown)

-- A run that came so far in `log`: its text are the lines of the replies.
pub record Writes (s : Settings) (ls : Line Event) (log : List ℕ) (x : Stage) : Type 0 where
  pub said : List LogReply
  pub lines : x.text ≡ lines_of said
  pub goes : Goes s ls log said (drop x.read log) x.heard x.state
