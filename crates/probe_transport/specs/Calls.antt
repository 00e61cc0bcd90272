-- What the calls of SDS-TL messages and bookings print, and what bookings they leave.
use Rattle.std.specs.Prelude.{◌≡◌, cond, List, [], ◌∷◌, ℕ, ◌+◌, ◌/◌, ◌≤◌, ◌<◌, leb, length, drop, replicate}
use Rattle.std.proofs.Math.Option.{Option, none, some}
use Rattle.history.specs.Line.{start}
use Rattle.transport.specs.Reading.{read_of}
use Rattle.transport.specs.Building.{sdu_of, out_of}
use Rattle.transport.specs.declared.Transport.{Transport}
use Rattle.transport.specs.declared.Sdu.{Sdu}
use Rattle.bookings.specs.Kept.{bookings_at}
use Rattle.bookings.specs.Book.{Books}
use Rattle.bookings.specs.declared.Bookings.{Bookings}
use Rattle.bookings.specs.declared.Booked.{Booked}
use Rattle.bookings.specs.declared.Reply.{Reply}
use Rattle.records.specs.Numbers.{four_at}
use Rattle.lines.specs.declared.line.Told.{Told}
use Rattle.lines.specs.Lines.{line_of, line_with, from_body, kind_text, Says}
use Rattle.probe_transport.specs.Body.{fields_in, n_in, sdu_in, lent_in}
use Rattle.probe_transport.specs.Body.{carrier_in, flag_in, message_in, user_bits_in, output_in, user_in}

-- ---- The lines.

-- A message that was read: `transport` and its numbers.
abbrev pub transport_numbers : Transport → List ℕ
transport_numbers t =
    t.fault ∷
    t.message.kind ∷
    t.message.addressed ∷
    t.message.mni ∷
    t.message.ssi ∷
    t.message.protocol ∷
    t.message.request ∷
    t.message.short ∷
    t.message.required ∷
    t.message.storage ∷
    t.message.status ∷
    t.message.reference ∷
    t.message.validity ∷
    t.message.forward ∷
    t.message.address ∷
    t.first ∷
    t.bits ∷
    []

abbrev pub transport_text : Transport → List ℕ
transport_text t =
    line_of (116 ∷ 114 ∷ 97 ∷ 110 ∷ 115 ∷ 112 ∷ 111 ∷ 114 ∷ 116 ∷ []) (transport_numbers t)

-- A build: `sdu`, its fault and number of bits, and the output afterwards, of which the bytes of those bits were
-- written.
abbrev pub written_by : Sdu → ℕ
written_by b = (b.bits + 7) / 8

abbrev pub sdu_text : Sdu → List ℕ → List ℕ
sdu_text b s = line_with (115 ∷ 100 ∷ 117 ∷ []) (b.fault ∷ b.bits ∷ []) (written_by b) s

-- Fresh bookings: `bookings`.
abbrev pub fresh_text : List ℕ
fresh_text = 98 ∷ 111 ∷ 111 ∷ 107 ∷ 105 ∷ 110 ∷ 103 ∷ 115 ∷ 10 ∷ []

-- A message that was booked or not: `book`, fault, mark, kind and reference.
abbrev pub book_text : Booked → List ℕ
book_text b =
    line_of (98 ∷ 111 ∷ 111 ∷ 107 ∷ [])
    (b.transport.fault ∷ b.mark ∷ b.transport.message.kind ∷ b.transport.message.reference ∷ [])

-- ---- What the calls print of a record's body.

unfoldable pub read_line : List ℕ → Option (List ℕ)
read_line body =
    let g = fields_in 0 body in
    from_body (leb 13 (length body)) (transport_text (read_of g.message g.elements (n_in body) (sdu_in body)))

-- What is built into this output; it has as many bytes as the body says, at most 1,024, all 5A.
unfoldable pub built_text : List ℕ → List ℕ → List ℕ
built_text body out =
    let c = carrier_in body in
    let f = flag_in body in
    let m = message_in body in
    let n = user_bits_in body in
    let u = user_in body in
    sdu_text (sdu_of c f m n (length u) (length out)) (out_of c f m n u out)

unfoldable pub build_line : List ℕ → Option (List ℕ)
build_line body =
    from_body (leb 35 (length body))
    (cond (leb (output_in body) 1024) (built_text body (replicate (output_in body) 90)) kind_text)

-- ---- What a body makes of the bookings and prints.

-- The bookings are fresh ones.
unfoldable pub FreshTells : List ℕ → List ℕ → Told Bookings → Type 0
FreshTells old new t = Says old (some fresh_text) new t.line × (t.state ≡ bookings_at start)

-- A message from this source: the line is of a reply that `book` promises, and the bookings are the reply's.
pub record Called (before : Bookings) (source : ℕ) (body old new : List ℕ) (t : Told Bookings) : Type 0 where
  pub reply : Reply
  pub books : Books before (lent_in source body) reply
  pub said : Says old (some (book_text reply.booked)) new t.line
  pub kept : t.state ≡ reply.bookings

-- The source, and then what a message is read of. A body that is too short prints nothing, and leaves the bookings
-- alone.
pub record BookTells (before : Bookings) (body old new : List ℕ) (t : Told Bookings) : Type 0 where
  pub called : 17 ≤ length body → Called before (four_at body 0) (drop 4 body) old new t
  pub short : length body < 17 → Says old none new t.line × (t.state ≡ before)
