-- The DM-SDU of DM-SDS UDATA (9.5.15), DM-SDS DATA (9.5.16) and DM-SDS ACK (9.5.17) with an SDS-TL message
-- (EN 300 392-2, 29.4.2) in it: one list of widths, which is read and built by.
use Rattle.std.specs.Prelude.{cond, List, [], ◌∷◌, ℕ, ◌+◌, ◌-◌, ◌*◌, eqb}
use Rattle.bits.specs.Layout.{place_in}

-- The message types of the header that carry one: DM-SDS UDATA 22, DM-SDS DATA 23, DM-SDS ACK 24. 1 for DM-SDS ACK.
abbrev pub ack_of : ℕ → ℕ
ack_of carrier = cond (eqb carrier 24) 1 0

-- A number for each kind of message: 1 SDS-TRANSFER (29.4.2.4), 2 SDS-REPORT (29.4.2.2), 3 SDS-ACK (29.4.2.1), 4
-- SDS-SHORT REPORT (29.4.2.3).
abbrev pub per : ℕ → ℕ → ℕ → ℕ → ℕ → ℕ
per kind transfer report ack short =
    cond (eqb kind 1) transfer (cond (eqb kind 2) report (cond (eqb kind 3) ack (cond (eqb kind 4) short 0)))

-- The bits of a forward address, by its type: 001 SSI, 010 SSI and extension, 111 none.
abbrev pub forward_width : ℕ → ℕ
forward_width forward = cond (eqb forward 1) 24 (cond (eqb forward 2) 48 0)

-- What decides the widths: 1 in a DM-SDS ACK, the additional addressing flag, the kind of message, storage and the
-- forward address type.
pub record Shape : Type 0 where
  pub ack : ℕ
  pub addressed : ℕ
  pub kind : ℕ
  pub storage : ℕ
  pub forward : ℕ

abbrev pub shape : ℕ → ℕ → ℕ → ℕ → ℕ → Shape
shape a d k s f = record { ack = a; addressed = d; kind = k; storage = s; forward = f }

-- The widths of the elements, in order. User data is what follows them up to the end of user defined data 4; after it
-- comes the FCS, if the header's flag is 1.
abbrev pub layout : Shape → List ℕ
layout q =
    4 * q.ack ∷  -- 0 acknowledgement type, 9.7.1
    (1 - q.ack) ∷  -- 1 additional addressing flag, 9.7.2
    4 * q.addressed ∷  -- 2 additional address type, 9.7.3
    24 * q.addressed ∷  -- 3 calling party TSI: MNI, 9.7.4
    24 * q.addressed ∷  -- 4 calling party TSI: SSI, 9.7.4
    4 ∷  -- 5 short data type identifier, 9.7.16
    -- transfer, report, ack, short report
    per q.kind 11 11 11 0 ∷  -- 6 length indicator, 9.7.12; user defined data 4 begins after it, 9.7.20
    per q.kind 8 8 8 0 ∷  -- 7 protocol identifier
    per q.kind 4 4 4 0 ∷  -- 8 message type
    per q.kind 2 0 0 0 ∷  -- 9 delivery report request
    per q.kind 1 0 0 0 ∷  -- 10 short form report
    per q.kind 0 1 0 0 ∷  -- 11 acknowledgement required
    per q.kind 0 2 4 0 ∷  -- 12 reserved
    per q.kind 1 1 0 0 ∷  -- 13 storage
    per q.kind 0 0 0 6 ∷  -- 14 the first six bits of the pre-coded status, 9.7.13
    per q.kind 0 8 8 2 ∷  -- 15 delivery status; in a short report its type
    8 ∷  -- 16 message reference
    5 * q.storage ∷  -- 17 validity period
    3 * q.storage ∷  -- 18 forward address type
    forward_width q.forward ∷  -- 19 forward address
    []

-- Where element k starts; past the last one, where they end.
abbrev pub at : ℕ → Shape → ℕ
at k q = place_in 0 (layout q) k

-- The short data type identifier, the message type and the six bits 011111 by which each kind is known.
abbrev pub sdti_of : ℕ → ℕ
sdti_of kind = per kind 3 3 3 4

abbrev pub type_of : ℕ → ℕ
type_of kind = per kind 0 1 2 0

abbrev pub beginning_of : ℕ → ℕ
beginning_of kind = per kind 0 0 0 31

-- Where the data end: user defined data 4 after as many bits as the length indicator says, a pre-coded status after 16.
abbrev pub end_of : Shape → ℕ → ℕ
end_of q length = at 7 q + per q.kind length length length 16
