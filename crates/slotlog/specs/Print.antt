-- What is printed of a slot log.
use Rattle.std.specs.Prelude.{cond, List, [], ◌∷◌, ◌++◌, ℕ}
use Rattle.text.specs.Text.{decimal_of, spaced}
use Rattle.receiver.specs.declared.answer.Answer.{Answer}
use Rattle.slotlog.specs.Log.{is_unit}
use Rattle.slotlog.specs.Replies.{LogReply, to_report, to_other, to_cut, replies_to}

-- The words, each a line.
abbrev pub unit_line : List ℕ
unit_line = 117 ∷ 110 ∷ 105 ∷ 116 ∷ 10 ∷ []

abbrev pub kind_line : List ℕ
kind_line = 107 ∷ 105 ∷ 110 ∷ 100 ∷ 10 ∷ []

abbrev pub cut_line : List ℕ
cut_line = 99 ∷ 117 ∷ 116 ∷ 10 ∷ []

-- A report: frame, slot, outcome, dropped, fault, bits, in decimal with one space between.
unfoldable pub line_of : ℕ → ℕ → Answer → List ℕ
line_of frame slot a =
    (decimal_of frame ++ spaced (slot ∷ a.outcome ∷ a.dropped ∷ a.fault ∷ a.bits ∷ [])) ++ (10 ∷ [])

-- The line of a reply, and the lines of a log's replies.
abbrev pub reply_line : LogReply → List ℕ
reply_line (to_report s ls l a) = line_of l.frame l.slot a
reply_line to_other = kind_line
reply_line to_cut = cut_line

unfoldable pub lines_of : List LogReply → List ℕ
lines_of [] = []
lines_of (r ∷ rs) = reply_line r ++ lines_of rs

-- All that is printed of a log.
abbrev pub printed : List ℕ → List ℕ
printed log = cond (is_unit log) (lines_of (replies_to log)) unit_line
