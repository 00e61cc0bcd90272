-- A header: SCH/H (9.1.1, table 22) with its SCH/S.
use Rattle.std.specs.Prelude.{Bool, cond, List, [], ◌∷◌, ◌++◌, ℕ, zero, suc, ◌+◌, ◌*◌, eqb, leb, length, drop}
use Rattle.std.proofs.Math.Option.{Option}
use Rattle.std.proofs.Math.Seq.{slice}
use Rattle.bits.specs.Bits.{bits_of, field}
use Rattle.bits.specs.Layout.{place_in, element_from, element}
use Rattle.blocks.specs.Faults.{unless, first_of}
use Rattle.blocks.specs.Widths.{entry_of, width_of}
use Rattle.blocks.specs.Sdu.{sdu_of, is_there, bits_of_message}
use Rattle.blocks.specs.Sync.{sync_of, sync_checks}
use Rattle.blocks.specs.declared.sync.Sync.{Sync}
use Rattle.blocks.specs.declared.header.Addressed.{Addressed}
use Rattle.blocks.specs.declared.header.Body.{Body}
use Rattle.blocks.specs.declared.header.Tail.{Tail}
use Rattle.blocks.specs.declared.header.Fields.{Fields}
use Rattle.blocks.specs.declared.header.Header.{Header}

-- ---- The addressed tail of a PDU: the elements from the destination address type up to the DM-SDU.

-- An address is included if its type is not 10 (9.3.5, 9.3.27).
abbrev pub address_width : ℕ → ℕ
address_width kind = cond (eqb kind 2) 0 24

-- The widths of the tail's elements, in order: the two address types decide them, and the width of the message
-- dependent elements.
abbrev pub tail_layout : ℕ → ℕ → ℕ → List ℕ
tail_layout to from width =
    2 ∷  -- 0 destination address type, 9.3.5
    address_width to ∷  -- 1 destination address, 9.3.4
    2 ∷  -- 2 source address type, 9.3.27
    address_width from ∷  -- 3 source address, 9.3.26
    24 ∷  -- 4 mobile network identity, 9.3.20
    5 ∷  -- 5 message type, 9.3.19
    width ∷  -- 6 message dependent elements, 9.3.18
    []

-- The tail as it stands from bit `at` on. An element's place hangs on those before it alone.
unfoldable pub to_in : ℕ → List Bool → ℕ
to_in at b = element_from at (tail_layout 0 0 0) 0 b

unfoldable pub from_in : ℕ → List Bool → ℕ
from_in at b = element_from at (tail_layout (to_in at b) 0 0) 2 b

unfoldable pub message_in : ℕ → List Bool → ℕ
message_in at b = element_from at (tail_layout (to_in at b) (from_in at b) 0) 5 b

-- Where the run of message dependent elements starts.
abbrev pub run_in : ℕ → List Bool → ℕ
run_in at b = place_in at (tail_layout (to_in at b) (from_in at b) 0) 6

unfoldable pub width_in : ℕ → List Bool → ℕ
width_in at b = width_of (entry_of (message_in at b)) (drop (run_in at b) b)

abbrev pub address_at : ℕ → List Bool → Addressed
address_at at b =
    let kind = field at 2 b in
    let width = address_width kind in
    record { address = record { kind = kind; ssi = field (at + 2) width b }; next = at + 2 + width }

-- Read as these address types and this width say, and as its own do.
abbrev pub tail_with : ℕ → ℕ → ℕ → ℕ → List Bool → Tail
tail_with at to from width b =
    let w = tail_layout to from width in
    record {
      destination = record { kind = element_from at w 0 b; ssi = element_from at w 1 b };
      source = record { kind = element_from at w 2 b; ssi = element_from at w 3 b };
      mni = element_from at w 4 b;
      message = element_from at w 5 b;
      run = place_in at w 6;
      width = width;
      first = place_in at w 7;
    }

abbrev pub tail_at : ℕ → List Bool → Tail
tail_at at b = tail_with at (to_in at b) (from_in at b) (width_in at b) b

-- Its fields, the message dependent elements as one number.
abbrev pub fields_with : Tail → List Bool → Fields
fields_with t b =
    record {
      destination = t.destination;
      source = t.source;
      mni = t.mni;
      message = t.message;
      width = t.width;
      elements = field t.run t.width b;
    }

-- ---- SCH/H: its own elements, and the tail.

-- What decides the widths of its elements: the fragmentation flag, and what decides the tail's.
pub record Shape : Type 0 where
  pub fragmented : ℕ
  pub to : ℕ
  pub from : ℕ
  pub width : ℕ

abbrev pub shape : ℕ → ℕ → ℕ → ℕ → Shape
shape f d s w = record { fragmented = f; to = d; from = s; width = w }

-- The widths of its own elements, in order, by the fragmentation flag.
abbrev pub header_prefix : ℕ → List ℕ
header_prefix fragmented =
    10 ∷  -- 0 reserved, with direct MS-MS
    1 ∷  -- 1 fill bit indication, 9.3.8
    1 ∷  -- 2 fragmentation flag, 9.3.9
    4 * fragmented ∷  -- 3 number of SCH/F slots, included if the flag is 1, 9.3.22
    2 ∷  -- 4 frame countdown, 9.3.10
    []

-- All of them, the tail's from element 5 on. The DM-SDU has the bits from there up to bit 124; after it come four pad
-- bits.
abbrev pub header_layout : Shape → List ℕ
header_layout q = header_prefix q.fragmented ++ tail_layout q.to q.from q.width

-- Where the tail starts, and where the DM-SDU does.
abbrev pub tail_start : ℕ → ℕ
tail_start fragmented = place_in 0 (header_prefix fragmented) 5

abbrev pub sdu_at : Shape → ℕ
sdu_at q = place_in 0 (header_layout q) 12

-- SCH/H as it stands.
unfoldable pub fragmented_in : List Bool → ℕ
fragmented_in b = element (header_prefix 0) 2 b

-- Where its own tail starts.
abbrev pub tail_of : List Bool → ℕ
tail_of b = tail_start (fragmented_in b)

abbrev pub shape_of : List Bool → Shape
shape_of b = shape (fragmented_in b) (to_in (tail_of b) b) (from_in (tail_of b) b) (width_in (tail_of b) b)

-- Read as a shape says, and as its own does.
abbrev pub body_with : Shape → List Bool → Body
body_with q b =
    let w = header_prefix q.fragmented in
    record {
      fill = element w 1 b;
      fragmented = element w 2 b;
      count = element w 3 b;
      countdown = element w 4 b;
      tail = tail_with (tail_start q.fragmented) q.to q.from q.width b;
    }

unfoldable pub body_of : List Bool → Body
body_of b = body_with (shape_of b) b

-- The DM-SDU's room, in a block whose room ends before bit `end`, and in SCH/H; the message bits in it.
abbrev pub room_in : ℕ → Tail → List Bool → List Bool
room_in end t b = slice t.first end b

abbrev pub room_of : Body → List Bool → List Bool
room_of e b = room_in 124 e.tail b

abbrev pub message_of_header : Body → List Bool → Option (List Bool)
message_of_header e b = sdu_of e.fill (room_of e b)

-- ---- The faults, in their order.

-- 18: the block's frame and slot (9.3.25: code 0 is slot 1) are the report's.
abbrev pub place_rules : ℕ → ℕ → Sync → List ℕ
place_rules frame slot y = unless (eqb y.frame frame) 18 ∷ unless (eqb (y.slot + 1) slot) 18 ∷ []

-- 8 and 9, of a tail in a block whose room ends before bit `end`: address type 11 is reserved; the message type has an
-- entry (the mark is 255), and the tail ends in the block.
abbrev pub tail_rules : ℕ → ℕ → ℕ → ℕ → ℕ → List ℕ
tail_rules to from width first end =
    unless (leb to 2) 8 ∷
    unless (leb from 2) 8 ∷
    unless (leb width 254) 9 ∷
    unless (leb first end) 9 ∷
    []

-- 10 before them: a fragmented header has a slot count of 1 or more. SCH/H has 124 bits.
abbrev pub body_rules : ℕ → ℕ → ℕ → ℕ → ℕ → ℕ → List ℕ
body_rules fragmented count to from width first =
    unless (leb fragmented count) 10 ∷ tail_rules to from width first 124

abbrev pub rules_of : Body → List ℕ
rules_of e =
    let t = e.tail in
    body_rules e.fragmented e.count t.destination.kind t.source.kind t.width t.first

-- And 11: where fill is told of, the room holds a 1.
abbrev pub body_checks : List Bool → List ℕ
body_checks b = rules_of (body_of b) ++ unless (is_there (message_of_header (body_of b) b)) 11 ∷ []

-- Headers are checked 1, 2 (both blocks), 3 to 7, 10, 8, 9, 11; in a report 18 comes after 7.
abbrev pub header_fault : List ℕ → List ℕ → ℕ
header_fault s h = first_of (sync_checks s h ++ body_checks (bits_of h))

abbrev pub reported_fault : ℕ → ℕ → List ℕ → List ℕ → ℕ
reported_fault frame slot s h =
    first_of (sync_checks s h ++ (place_rules frame slot (sync_of (bits_of s)) ++ body_checks (bits_of h)))

-- ---- The answers.

abbrev pub no_fields : Fields
no_fields =
    record {
      destination = record { kind = 0; ssi = 0 };
      source = record { kind = 0; ssi = 0 };
      mni = 0;
      message = 0;
      width = 0;
      elements = 0;
    }

abbrev pub refused_header : ℕ → Header
refused_header fault =
    record {
      fault = fault;
      sync = record { system = 0; usage = 0; slot = 0; frame = 0 };
      fragmented = 0;
      count = 0;
      countdown = 0;
      fields = no_fields;
      first = 0;
      bits = 0;
    }

abbrev pub fields_of : List Bool → Fields
fields_of b = fields_with (body_of b).tail b

abbrev pub header_of : Sync → List Bool → Header
header_of y b =
    let e = body_of b in
    record {
      fault = 0;
      sync = y;
      fragmented = e.fragmented;
      count = e.count;
      countdown = e.countdown;
      fields = fields_of b;
      first = e.tail.first;
      bits = length (bits_of_message (message_of_header e b));
    }

-- By its fault: the number and 0 for everything else, or the header.
abbrev pub answered : ℕ → Header → Header
answered zero r = r
answered (suc n) r = refused_header (suc n)

unfoldable pub read_body : Sync → List Bool → Header
read_body y b = answered (first_of (body_checks b)) (header_of y b)

unfoldable pub read_header : List ℕ → List ℕ → Header
read_header s h = answered (header_fault s h) (header_of (sync_of (bits_of s)) (bits_of h))

unfoldable pub read_reported : ℕ → ℕ → List ℕ → List ℕ → Header
read_reported frame slot s h = answered (reported_fault frame slot s h) (header_of (sync_of (bits_of s)) (bits_of h))
