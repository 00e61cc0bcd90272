-- Reading a DM-SDU: which of the four messages it is, its elements and its user data, and what is refused.
use Rattle.std.specs.Prelude.{Bool, true, cond, List, [], ◌∷◌, ℕ, zero, suc, ◌+◌, ◌-◌, ◌*◌, ◌%◌, eqb, leb, ltb}
use Rattle.std.specs.Prelude.{length, take, Result, Ok, Err}
use Rattle.bits.specs.Bits.{bits_of, num, field}
use Rattle.blocks.specs.Faults.{unless, first_of, number_of}
use Rattle.blocks.specs.declared.fault.Fault.{Fault}
use Rattle.fcs.specs.Annex.{fcs_of}
use Rattle.transport.specs.Layouts.{ack_of, per, Shape, at}
use Rattle.transport.specs.Elements.{element_in, shape_of, end_in}
use Rattle.transport.specs.declared.Message.{Message}
use Rattle.transport.specs.declared.Transport.{Transport}

-- ---- What is refused: 13, 21, 22, the first number first.

-- Storage's forward address type, if it is all there, is one of direct mode's: 001, 010 or 111.
abbrev pub direct : ℕ → Bool
direct forward = cond (eqb forward 1) true (cond (eqb forward 2) true (eqb forward 7))

abbrev pub forward_holds : ℕ → ℕ → ℕ → ℕ → ℕ → Bool
forward_holds storage forward typed end n =
    cond (eqb storage 1) (cond (ltb end typed) true (cond (ltb n typed) true (direct forward))) true

-- The FCS that stands at bit `end`, if it is told of and all there, is that of the bits before it.
abbrev pub fcs_holds : ℕ → ℕ → List Bool → Bool
fcs_holds flag end b =
    cond (eqb flag 1) (cond (ltb (length b) (end + 32)) true (eqb (field end 32 b) (num (fcs_of (take end b))))) true

-- 21: not one of the four, or too short to tell. The message type is one of the three; acknowledgement type 0001 in a
-- DM-SDS ACK; additional address type 0001, where one is told of; one of the four kinds; forward address type; FCS.
-- 22: it ends before its last element, or before its data or its FCS do.
abbrev pub sdu_rules : ℕ → ℕ → ℕ → ℕ → ℕ → ℕ → Bool → Bool → ℕ → ℕ → ℕ → ℕ → List ℕ
sdu_rules carrier acknowledged ack address addressed kind forward check fixed end flag n =
    unless (leb 22 carrier) 21 ∷
    unless (leb carrier 24) 21 ∷
    unless (eqb acknowledged ack) 21 ∷
    unless (eqb address addressed) 21 ∷
    unless (leb 1 kind) 21 ∷
    unless forward 21 ∷
    unless check 21 ∷
    unless (leb fixed end) 22 ∷
    unless (leb (end + 32 * flag) n) 22 ∷
    []

abbrev pub rules_of : ℕ → ℕ → Shape → List Bool → List ℕ
rules_of carrier flag q b =
    let end = end_in q b in
    sdu_rules carrier (element_in 0 q b) q.ack (element_in 2 q b) q.addressed q.kind
    (forward_holds q.storage q.forward (at 19 q) end (length b)) (fcs_holds flag end b) (at 20 q) end flag
    (length b)

-- The FCS flag is the last bit of the header's elements (9.5.15 to 9.5.17).
abbrev pub flag_of : ℕ → ℕ
flag_of elements = elements % 2

-- The bits that are read: the first n of those lent.
abbrev pub sdu_bits : ℕ → List ℕ → List Bool
sdu_bits n sdu = take n (bits_of sdu)

abbrev pub read_checks : ℕ → ℕ → ℕ → List ℕ → List ℕ
read_checks carrier elements n sdu =
    let b = sdu_bits n sdu in
    unless (leb n (8 * length sdu)) 13 ∷ rules_of carrier (flag_of elements) (shape_of (ack_of carrier) b) b

-- ---- The answer.

-- The message of this shape whose element k has the value v k.
abbrev pub message_with : Shape → (ℕ → ℕ) → Message
message_with q v =
    record {
      kind = q.kind;
      addressed = q.addressed;
      mni = v 3;
      ssi = v 4;
      protocol = v 7;
      request = v 9;
      short = v 10;
      required = v 11;
      storage = q.storage;
      status = v 15;
      reference = v 16;
      validity = v 17;
      forward = q.forward;
      address = v 19;
    }

-- With it, where its data end at bit `end`, the first bit of its user data and their number, which an ack and a short
-- report do not have.
abbrev pub transport_with : Shape → (ℕ → ℕ) → ℕ → Transport
transport_with q v end =
    let n = end - at 20 q in
    record {
      fault = 0;
      message = message_with q v;
      first = per q.kind (at 20 q) (at 20 q) 0 0;
      bits = per q.kind n n 0 0;
    }

-- As it was read.
abbrev pub transport_of : Shape → List Bool → Transport
transport_of q b = transport_with q (λ k. element_in k q b) (end_in q b)

abbrev pub no_message : Message
no_message =
    record {
      kind = 0;
      addressed = 0;
      mni = 0;
      ssi = 0;
      protocol = 0;
      request = 0;
      short = 0;
      required = 0;
      storage = 0;
      status = 0;
      reference = 0;
      validity = 0;
      forward = 0;
      address = 0;
    }

abbrev pub refused_transport : ℕ → Transport
refused_transport fault = record { fault = fault; message = no_message; first = 0; bits = 0 }

-- What a reading's outcome comes to: what was read, or the refusal.
abbrev pub answer : Result Transport Fault → Transport
answer (Ok r) = r
answer (Err f) = refused_transport (number_of f)

-- By its fault: the number and 0 for everything else, or the message.
abbrev pub answered : ℕ → Transport → Transport
answered zero r = r
answered (suc n) r = refused_transport (suc n)

-- What these bits read as.
unfoldable pub read_bits : ℕ → ℕ → List Bool → Transport
read_bits carrier flag b =
    let q = shape_of (ack_of carrier) b in
    answered (first_of (rules_of carrier flag q b)) (transport_of q b)

-- What is read of the first n bits of a DM-SDU that came with this message type and these elements.
unfoldable pub read_of : ℕ → ℕ → ℕ → List ℕ → Transport
read_of carrier elements n sdu =
    let b = sdu_bits n sdu in
    answered (first_of (read_checks carrier elements n sdu)) (transport_of (shape_of (ack_of carrier) b) b)
