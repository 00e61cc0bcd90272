-- What the calls that give another receiver print: settings and slot reports.
use Rattle.std.specs.Prelude.{◌≡◌, Bool, true, false, List, [], ◌∷◌, ℕ, ◌+◌, ◌/◌, leb, length, drop, get_or, replicate}
use Rattle.std.proofs.Math.Option.{Option, none, some}
use Rattle.reports.specs.Lent.{Lent, lent}
use Rattle.history.specs.declared.Lost.{Lost}
use Rattle.receiver.specs.View.{fresh_of}
use Rattle.receiver.specs.Reached.{Hears}
use Rattle.receiver.specs.declared.Receiver.{Receiver}
use Rattle.receiver.specs.declared.Reply.{Reply}
use Rattle.receiver.specs.declared.Fresh.{Fresh}
use Rattle.receiver.specs.declared.answer.Answer.{Answer}
use Rattle.records.specs.Numbers.{two_at, four_at}
use Rattle.lines.specs.declared.line.Told.{Told}
use Rattle.lines.specs.Lines.{line_of, line_then, unknown_line, Says}

-- ---- The lines.

-- Settings: `unit` and the fault.
abbrev pub unit_text : ℕ → List ℕ
unit_text fault = line_of (117 ∷ 110 ∷ 105 ∷ 116 ∷ []) (fault ∷ [])

-- A report: `report`, the answer's numbers, the buffer afterwards, of which the message's bytes were written, and the
-- numbers of a message that is lost.
abbrev pub answer_numbers : Answer → List ℕ
answer_numbers a =
    a.outcome ∷
    a.dropped ∷
    a.fault ∷
    a.bits ∷
    a.fields.destination.kind ∷
    a.fields.destination.ssi ∷
    a.fields.source.kind ∷
    a.fields.source.ssi ∷
    a.fields.mni ∷
    a.fields.message ∷
    a.fields.width ∷
    a.fields.elements ∷
    []

abbrev pub lost_numbers : Lost → List ℕ
lost_numbers x = x.source ∷ x.message ∷ x.bits ∷ []

abbrev pub handed_by_reply : Answer → ℕ
handed_by_reply a = (a.bits + 7) / 8

abbrev pub report_text : Answer → List ℕ → List ℕ
report_text a s =
    line_then (114 ∷ 101 ∷ 112 ∷ 111 ∷ 114 ∷ 116 ∷ []) (answer_numbers a) (handed_by_reply a) s (lost_numbers a.lost)

-- ---- What a body makes of the receiver and prints.

abbrev pub Either : Bool → Type 0 → Type 0 → Type 0
Either true a b = a
Either false a b = b

-- Nothing is called that gives another receiver.
abbrev pub Same : Receiver → Option (List ℕ) → List ℕ → List ℕ → Told Receiver → Type 0
Same before line old new t = Says old line new t.line × (t.state ≡ before)

-- The individual address, the group address and the MNI: the receiver is a fresh one.
abbrev pub fresh_in : List ℕ → Fresh
fresh_in body = fresh_of (four_at body 0) (four_at body 4) (four_at body 8)

unfoldable pub UnitTells : Receiver → List ℕ → List ℕ → List ℕ → Told Receiver → Type 0
UnitTells before body old new t =
    Either (leb 12 (length body))
    (Says old (some (unit_text (fresh_in body).fault)) new t.line × (t.state ≡ (fresh_in body).receiver))
    (Same before none old new t)

-- A report: frame, slot, kind, the buffer's length, the lent blocks.
abbrev pub lent_in : List ℕ → Lent
lent_in body = lent (get_or body 0 0) (get_or body 1 0) (get_or body 2 0) (drop 5 body)

abbrev pub buffer_in : List ℕ → ℕ
buffer_in body = two_at body 3

-- It is heard, with this buffer for a message: the line is of a reply that `hear` promises, and the receiver is the
-- reply's.
pub record HeardInto (before : Receiver) (body buffer old new : List ℕ) (t : Told Receiver) : Type 0 where
  pub reply : Reply
  pub after : List ℕ
  pub hears : Hears before (lent_in body) reply buffer after
  pub said : Says old (some (report_text reply.answer after)) new t.line
  pub kept : t.state ≡ reply.receiver

-- The buffer has as many bytes as the body says, at most 1,024, all 5A.
unfoldable pub ReportTells : Receiver → List ℕ → List ℕ → List ℕ → Told Receiver → Type 0
ReportTells before body old new t =
    Either (leb 5 (length body))
    (Either (leb (buffer_in body) 1024) (HeardInto before body (replicate (buffer_in body) 90) old new t)
    (Same before unknown_line old new t))
    (Same before none old new t)
