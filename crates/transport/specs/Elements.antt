-- The elements of a DM-SDU as they stand in a string of bits.
use Rattle.std.specs.Prelude.{Bool, cond, List, ℕ, ◌+◌, eqb, ltb, length, get_or}
use Rattle.bits.specs.Bits.{field}
use Rattle.transport.specs.Layouts.{Shape, shape, layout, at, end_of}

-- One that is not all there is 0.
abbrev pub whole : ℕ → ℕ → List Bool → ℕ
whole place w b = cond (ltb (length b) (place + w)) 0 (field place w b)

abbrev pub element_in : ℕ → Shape → List Bool → ℕ
element_in k q b = whole (at k q) (get_or (layout q) k 0) b

-- An element's place hangs on those before it alone.
unfoldable pub addressed_in : ℕ → List Bool → ℕ
addressed_in ack b = element_in 1 (shape ack 0 0 0 0) b

-- In user defined data 4, of so many bits: a protocol identifier of 128 or more and a message type of 0000 to 0010 tell
-- the kind; a transfer, 0000, is not carried in a DM-SDS ACK (E.1.1). 0 where they do not tell one.
unfoldable pub kind_in_data : ℕ → ℕ → ℕ → ℕ → ℕ → ℕ → ℕ
kind_in_data n end length protocol type ack =
    cond (ltb n end) 0
    (cond (ltb length 12) 0
    (cond (ltb protocol 128) 0
    (cond (ltb 2 type) 0
    (cond (ltb type ack) 0
    (type + 1)))))

-- A pre-coded status that begins 011111 is a short report.
abbrev pub kind_in_status : ℕ → ℕ
kind_in_status beginning = cond (eqb beginning 31) 4 0

-- By the short data type identifier: 0011 user defined data 4, 0100 pre-coded status.
unfoldable pub kind_in : ℕ → List Bool → ℕ
kind_in ack b =
    let a = addressed_in ack b in
    let q = shape ack a 1 0 0 in
    let sdti = element_in 5 q b in
    cond (eqb sdti 3) (kind_in_data (length b) (at 9 q) (element_in 6 q b) (element_in 7 q b) (element_in 8 q b) ack)
    (cond (eqb sdti 4) (kind_in_status (element_in 14 (shape ack a 4 0 0) b))
    0)

unfoldable pub storage_in : ℕ → List Bool → ℕ
storage_in ack b = element_in 13 (shape ack (addressed_in ack b) (kind_in ack b) 0 0) b

unfoldable pub forward_in : ℕ → List Bool → ℕ
forward_in ack b = element_in 18 (shape ack (addressed_in ack b) (kind_in ack b) (storage_in ack b) 0) b

abbrev pub shape_of : ℕ → List Bool → Shape
shape_of ack b = shape ack (addressed_in ack b) (kind_in ack b) (storage_in ack b) (forward_in ack b)

-- Where its data end, as its own length indicator says.
abbrev pub end_in : Shape → List Bool → ℕ
end_in q b = end_of q (element_in 6 q b)
