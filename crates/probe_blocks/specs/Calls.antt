-- What the calls that leave the receiver alone print: builds, reads and the layout.
use Rattle.std.specs.Prelude.{cond, List, [], ◌∷◌, ℕ, ◌+◌, ◌*◌, eqb, leb, length, take, drop, get_or, replicate}
use Rattle.std.proofs.Math.Option.{Option, some}
use Rattle.build.specs.Build.{build_of, out_of}
use Rattle.blocks.specs.Header.{read_header}
use Rattle.blocks.specs.Continuation.{read_continuation}
use Rattle.blocks.specs.Slots.{due_of}
use Rattle.build.specs.declared.Built.{Built}
use Rattle.blocks.specs.declared.header.Header.{Header}
use Rattle.blocks.specs.declared.continuation.Continuation.{Continuation}
use Rattle.blocks.specs.declared.slots.Due.{Due}
use Rattle.lines.specs.Lines.{line_of, line_with, from_body, kind_text, unknown_line, choose}
use Rattle.probe_blocks.specs.Body.{sync_in, countdown_in_record, fields_in, n_in, lent_in, message_in}

-- ---- The lines.

-- A build: `build`, its fault and number of blocks, and the output afterwards, of which SCH/S, SCH/H and the blocks
-- were written; refused, nothing.
abbrev pub written_by : Built → ℕ
written_by b = cond (eqb b.fault 0) (24 + 34 * b.blocks) 0

abbrev pub build_text : Built → List ℕ → List ℕ
build_text b s = line_with (98 ∷ 117 ∷ 105 ∷ 108 ∷ 100 ∷ []) (b.fault ∷ b.blocks ∷ []) (written_by b) s

-- A header: `header` and its numbers.
abbrev pub header_numbers : Header → List ℕ
header_numbers h =
    h.fault ∷
    h.sync.system ∷
    h.sync.usage ∷
    h.sync.slot ∷
    h.sync.frame ∷
    h.fragmented ∷
    h.count ∷
    h.countdown ∷
    h.fields.destination.kind ∷
    h.fields.destination.ssi ∷
    h.fields.source.kind ∷
    h.fields.source.ssi ∷
    h.fields.mni ∷
    h.fields.message ∷
    h.fields.width ∷
    h.fields.elements ∷
    h.first ∷
    h.bits ∷
    []

abbrev pub header_text : Header → List ℕ
header_text h = line_of (104 ∷ 101 ∷ 97 ∷ 100 ∷ 101 ∷ 114 ∷ []) (header_numbers h)

-- A continuation block: `block`, and the layout call: `frame`.
abbrev pub block_text : Continuation → List ℕ
block_text b = line_of (98 ∷ 108 ∷ 111 ∷ 99 ∷ 107 ∷ []) (b.fault ∷ b.last ∷ b.first ∷ b.bits ∷ [])

abbrev pub frame_text : Due → List ℕ
frame_text d = line_of (102 ∷ 114 ∷ 97 ∷ 109 ∷ 101 ∷ []) (d.fault ∷ d.frame ∷ [])

-- ---- What the calls print of a record's body.

-- What is built of the fields into this output; it has as many bytes as the body says, at most 1,024, all 5A.
unfoldable pub built_text : List ℕ → List ℕ → List ℕ
built_text body out =
    let y = sync_in body in
    let c = countdown_in_record body in
    let g = fields_in body in
    let n = n_in body in
    let m = message_in body in
    build_text (build_of y c g n (length m) (length out)) (out_of y c g n m out)

unfoldable pub build_line : List ℕ → Option (List ℕ)
build_line body =
    from_body (leb 35 (length body))
    (cond (leb (lent_in body) 1024) (built_text body (replicate (lent_in body) 90)) kind_text)

-- The lengths of SCH/S and SCH/H, and the two blocks.
unfoldable pub header_line : List ℕ → Option (List ℕ)
header_line body =
    let s = get_or body 0 0 in
    let h = get_or body 1 0 in
    from_body (leb (2 + s + h) (length body))
    (header_text (read_header (take s (drop 2 body)) (take h (drop (2 + s) body))))

-- The block.
unfoldable pub block_line : List ℕ → Option (List ℕ)
block_line body = some (block_text (read_continuation body))

-- X, F and i.
unfoldable pub frame_line : List ℕ → Option (List ℕ)
frame_line body =
    from_body (leb 3 (length body)) (frame_text (due_of (get_or body 0 0) (get_or body 1 0) (get_or body 2 0)))

-- By the record's kind.
unfoldable pub record_line : ℕ → List ℕ → Option (List ℕ)
record_line kind body =
    choose (eqb kind 5) (build_line body)
    (choose (eqb kind 6) (header_line body)
    (choose (eqb kind 7) (block_line body)
    (choose (eqb kind 8) (frame_line body)
    unknown_line)))
