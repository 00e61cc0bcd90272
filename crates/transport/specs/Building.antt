-- Building a DM-SDU with one of the four messages, bit for bit, and what is refused.
use Rattle.std.specs.Prelude.{◌≡◌, Bool, true, cond, ◌&&◌, List, [], ◌∷◌, ◌++◌, ℕ, zero, suc, ◌+◌, ◌-◌, ◌*◌, ◌^◌, ◌≤◌}
use Rattle.std.specs.Prelude.{eqb, leb, ltb, length, take, Result, Ok, Err}
use Rattle.bits.specs.Bits.{bits_of}
use Rattle.bits.specs.Layout.{Part, parts_with, pack, total, AllFit, AllNarrow}
use Rattle.blocks.specs.Faults.{unless, first_of, number_of}
use Rattle.blocks.specs.declared.fault.Fault.{Fault}
use Rattle.store.specs.Store.{handed}
use Rattle.fcs.specs.Annex.{fcs_of}
use Rattle.transport.specs.Layouts.{ack_of, per, forward_width, Shape, shape, layout, at}
use Rattle.transport.specs.Layouts.{sdti_of, type_of, beginning_of}
use Rattle.transport.specs.Reading.{direct}
use Rattle.transport.specs.declared.Message.{Message}
use Rattle.transport.specs.declared.Sdu.{Sdu}

-- ---- The bits.

abbrev pub shape_for : ℕ → Message → Shape
shape_for ack m = shape ack m.addressed m.kind m.storage m.forward

-- Where user defined data 4 or the status begins.
abbrev pub data_at : ℕ → ℕ → ℕ → ℕ
data_at ack addressed kind = 3 * ack + 1 + 52 * addressed + 4 + per kind 11 11 11 0

-- The bits of the message's elements, from the protocol identifier or the status on.
abbrev pub message_bits : ℕ → ℕ → ℕ → ℕ
message_bits kind storage forward = per kind 24 32 32 16 + 8 * storage + forward_width forward

-- The length indicator: the bits of user defined data 4, from the protocol identifier on, with n of user data. A short
-- report has none.
abbrev pub length_for : Shape → ℕ → ℕ
length_for q n = let l = at 20 q - at 7 q + n in per q.kind l l l 0

-- The elements' values beside their widths; acknowledgement type and additional address type are 0001, reserved bits
-- zero.
abbrev pub values_for : ℕ → Message → ℕ → List ℕ
values_for ack m length =
    ack ∷
    m.addressed ∷
    m.addressed ∷
    m.mni ∷
    m.ssi ∷
    sdti_of m.kind ∷
    length ∷
    m.protocol ∷
    type_of m.kind ∷
    m.request ∷
    m.short ∷
    m.required ∷
    0 ∷
    m.storage ∷
    beginning_of m.kind ∷
    m.status ∷
    m.reference ∷
    m.validity ∷
    m.forward ∷
    m.address ∷
    []

abbrev pub parts_for : ℕ → Message → ℕ → List Part
parts_for ack m n = let q = shape_for ack m in parts_with (layout q) (values_for ack m (length_for q n))

-- The DM-SDU before its FCS: the elements, and the user data.
unfoldable pub frame_bits : ℕ → Message → List Bool → List Bool
frame_bits ack m user = pack (parts_for ack m (length user)) ++ user

-- The FCS after it, if the flag is 1.
abbrev pub checked : ℕ → List Bool → List Bool
checked flag frame = cond (eqb flag 1) (frame ++ fcs_of frame) frame

unfoldable pub built_bits : ℕ → ℕ → Message → List Bool → List Bool
built_bits carrier flag m user = checked flag (frame_bits (ack_of carrier) m user)

-- How many bits they are.
abbrev pub bits_for : ℕ → ℕ → Message → ℕ → ℕ
bits_for carrier flag m n = at 20 (shape_for (ack_of carrier) m) + n + 32 * flag

-- ---- What is refused: 21, 13, 1, in this order.

-- In a transfer and a report whose storage is 1, the forward address type is one of direct mode's.
abbrev pub stored_holds : ℕ → ℕ → ℕ → Bool
stored_holds kind storage forward = cond (eqb (per kind storage storage 0 0) 1) (direct forward) true

-- 21: the header's message type; the kind, a transfer not in a DM-SDS ACK; the protocol identifier; the forward address
-- type.
abbrev pub kind_rules : ℕ → ℕ → ℕ → ℕ → ℕ → Bool → List ℕ
kind_rules carrier lowest kind least protocol stored =
    unless (leb 22 carrier) 21 ∷
    unless (leb carrier 24) 21 ∷
    unless (leb lowest kind) 21 ∷
    unless (leb kind 4) 21 ∷
    unless (leb least protocol) 21 ∷
    unless stored 21 ∷
    []

-- 13: a flag above 1; user data that an ack or a short report does not have; bits that are not lent.
abbrev pub flag_rules : ℕ → ℕ → ℕ → ℕ → ℕ → Bool → List ℕ
flag_rules flag addressed storage n most lent =
    unless (leb flag 1) 13 ∷
    unless (leb addressed 1) 13 ∷
    unless (leb storage 1) 13 ∷
    unless (leb n most) 13 ∷
    unless lent 13 ∷
    []

-- User defined data 4 has at most 2,047 bits, in a DM-SDS ACK 269, with FCS 237: what one header and one block hold.
abbrev pub most_for : ℕ → ℕ → ℕ
most_for ack flag = cond (eqb ack 1) (269 - 32 * flag) 2047

-- Each value fits its element: one that the message does not have has no bits, and is 0.
abbrev pub fits : List Part → Bool
fits [] = true
fits (p ∷ ps) = ltb p.value (2 ^ p.width) && fits ps

-- 13: too many bits of user defined data 4; a number too large for its field. 1: the output is too short.
abbrev pub fit_rules : ℕ → ℕ → Bool → Bool → List ℕ
fit_rules length most fit enough =
    unless (leb length most) 13 ∷
    unless fit 13 ∷
    unless enough 1 ∷
    []

-- A build of n of the lent user data's bits into a lent output of so many bytes.
abbrev pub build_checks : ℕ → ℕ → Message → ℕ → ℕ → ℕ → List ℕ
build_checks carrier flag m n bytes lent =
    let ack = ack_of carrier in
    let kind = m.kind in
    kind_rules carrier (ack + 1) kind (per kind 128 128 128 0) m.protocol
    (stored_holds kind m.storage m.forward) ++
    (flag_rules flag m.addressed m.storage n (per kind 2047 2047 0 0) (leb n (8 * bytes)) ++
    fit_rules (length_for (shape_for ack m) n) (most_for ack flag) (fits (parts_for ack m n))
    (leb (bits_for carrier flag m n) (8 * lent)))

unfoldable pub build_fault : ℕ → ℕ → Message → ℕ → ℕ → ℕ → ℕ
build_fault carrier flag m n bytes lent = first_of (build_checks carrier flag m n bytes lent)

-- What has passed by then.
pub record Passed (ack flag : ℕ) (m : Message) (n bytes : ℕ) : Type 0 where
  pub carried : ack ≤ 1
  pub least : 1 ≤ m.kind
  pub most : m.kind ≤ 4
  pub flagged : flag ≤ 1
  pub addressed : m.addressed ≤ 1
  pub storage : m.storage ≤ 1
  pub short : n ≤ 2047
  pub lent : n ≤ 8 * bytes

-- What writing asks: each value fits its width, and all of it the output.
pub record PutsSdu (ws vs user : List ℕ) (first n flag : ℕ) (out : List ℕ) : Type 0 where
  pub paired : length ws ≡ length vs
  pub narrow : AllNarrow ws
  pub fit : AllFit (parts_with ws vs)
  pub elements : total (parts_with ws vs) ≡ first
  pub near : first ≤ 256
  pub flagged : flag ≤ 1
  pub short : n ≤ 2047
  pub lent : n ≤ 8 * length user
  pub room : first + n + 32 * flag ≤ 8 * length out

-- ---- The answer, and the output afterwards.

abbrev pub built_as : ℕ → ℕ → Sdu
built_as zero bits = record { fault = 0; bits = bits }
built_as (suc f) bits = record { fault = suc f; bits = 0 }

-- What a build's outcome comes to: the number of bits, or the fault.
abbrev pub answer : Result ℕ Fault → Sdu
answer (Ok bits) = record { fault = 0; bits = bits }
answer (Err f) = record { fault = number_of f; bits = 0 }

-- What is left of the rules when the kind and the flags have passed.
abbrev pub fit_fault : ℕ → ℕ → Message → ℕ → ℕ → ℕ
fit_fault ack flag m n lent =
    let q = shape_for ack m in
    first_of
    (fit_rules (length_for q n) (most_for ack flag) (fits (parts_for ack m n)) (leb (at 20 q + n + 32 * flag)
    (8 * lent)))

unfoldable pub sdu_of : ℕ → ℕ → Message → ℕ → ℕ → ℕ → Sdu
sdu_of carrier flag m n bytes lent = built_as (build_fault carrier flag m n bytes lent) (bits_for carrier flag m n)

-- The DM-SDU at the output's start, the last byte's spare bits zero, and after it what was there; refused, all that was
-- there.
abbrev pub out_as : ℕ → List Bool → List ℕ → List ℕ
out_as zero bits old = handed bits old
out_as (suc f) bits old = old

unfoldable pub out_of : ℕ → ℕ → Message → ℕ → List ℕ → List ℕ → List ℕ
out_of carrier flag m n user old =
    out_as (build_fault carrier flag m n (length user) (length old)) (built_bits carrier flag m (take n
    (bits_of user))) old
