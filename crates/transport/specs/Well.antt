-- What reads well and what is built, in plain facts.
use Rattle.std.specs.Prelude.{◌≡◌, Bool, true, cond, List, [], ◌++◌, ℕ, ◌+◌, ◌-◌, ◌*◌, ◌^◌, ◌≤◌, ◌<◌, eqb, length}
use Rattle.std.specs.Prelude.{take, drop, set}
use Rattle.bits.specs.Layout.{pack, parts_with, parts_in, element}
use Rattle.fcs.specs.Annex.{fcs_of}
use Rattle.transport.specs.Layouts.{ack_of, per, forward_width, Shape, layout, at, end_of}
use Rattle.transport.specs.Layouts.{sdti_of, type_of, beginning_of}
use Rattle.transport.specs.Reading.{direct, transport_with}
use Rattle.transport.specs.Building.{shape_for, length_for, values_for, most_for, bits_for}
use Rattle.transport.specs.declared.Message.{Message}
use Rattle.transport.specs.declared.Transport.{Transport}

-- ---- Reading.

-- The number that stands at the place of element k.
abbrev pub stands : ℕ → Shape → List Bool → ℕ
stands k q b = element (layout q) k b

-- Where the data end, as the length indicator that stands there says.
abbrev pub end_at : Shape → List Bool → ℕ
end_at q b = end_of q (stands 6 q b)

-- The bits are those of one of the four messages, in a header of one of the three message types, all of them there.
pub record ReadsWell (carrier flag : ℕ) (b : List Bool) : Type 0 where
  pub lowest : 22 ≤ carrier
  pub highest : carrier ≤ 24
  -- what decides the widths, and stands there itself
  pub form : Shape
  pub carried : form.ack ≡ ack_of carrier
  pub addressed : stands 1 form b ≡ form.addressed
  pub storage : stands 13 form b ≡ form.storage
  pub forward : stands 18 form b ≡ form.forward
  -- acknowledgement type 0001 in a DM-SDS ACK, additional address type 0001 where there is one
  pub acknowledged : stands 0 form b ≡ form.ack
  pub address : stands 2 form b ≡ form.addressed
  -- one of the four kinds, a transfer not in a DM-SDS ACK
  pub least : form.ack + 1 ≤ form.kind
  pub most : form.kind ≤ 4
  pub sdti : stands 5 form b ≡ sdti_of form.kind
  pub protocol : form.kind ≤ 3 → 128 ≤ stands 7 form b
  pub type : stands 8 form b ≡ type_of form.kind
  pub beginning : stands 14 form b ≡ beginning_of form.kind
  pub stored : form.storage ≡ 1 → direct form.forward ≡ true
  -- the elements, the data and the FCS are all there, and the FCS is that of the bits before it
  pub fixed : at 20 form ≤ end_at form b
  pub there : end_at form b + 32 * flag ≤ length b
  pub check : flag ≡ 1 → take 32 (drop (end_at form b) b) ≡ fcs_of (take (end_at form b) b)

-- The answer with the elements that stand there.
abbrev pub transport_at : Shape → List Bool → Transport
transport_at q b = transport_with q (λ k. stands k q b) (end_at q b)

-- ---- Every bit.

-- The user data, where the answer says that they are.
abbrev pub user_in : Transport → List Bool → List Bool
user_in r b = take r.bits (drop r.first b)

-- What user defined data 4 has after the elements of an SDS-ACK; the other three messages have nothing else.
abbrev pub after_at : Shape → List Bool → List Bool
after_at q b = cond (eqb q.kind 3) (take (end_at q b - at 20 q) (drop (at 20 q) b)) []

-- The answer r with the reserved bits, and what stands after an SDS-ACK's elements, are all the bits before the FCS,
-- and the FCS is theirs.
pub record Accounts (flag : ℕ) (q : Shape) (b : List Bool) (r : Transport) : Type 0 where
  pub answer : r ≡ transport_at q b
  pub parts : let l = length_for q (r.bits + length (after_at q b)) in
      parts_in 0 (layout q) b ≡ parts_with (layout q) (set (values_for q.ack r.message l) 12 (stands 12 q b))
  pub bits : take (end_at q b) b ≡ pack (parts_in 0 (layout q) b) ++ (user_in r b ++ after_at q b)
  pub user : length (user_in r b) ≡ r.bits
  pub there : end_at q b + 32 * flag ≤ length b
  pub check : flag ≡ 1 → take 32 (drop (end_at q b) b) ≡ fcs_of (take (end_at q b) b)

-- Nothing stands there that a build would not write: reserved bits are zero; nothing follows the data and their FCS,
-- nor, in an SDS-ACK, the elements; and in a DM-SDS ACK the length is one that a build takes.
pub record Exact (flag : ℕ) (q : Shape) (b : List Bool) : Type 0 where
  pub reserved : stands 12 q b ≡ 0
  pub ends : length b ≡ end_at q b + 32 * flag
  pub after : q.kind ≡ 3 → end_at q b ≡ at 20 q
  pub short : q.ack ≡ 1 → stands 6 q b ≤ most_for 1 flag

-- ---- Building.

-- The numbers are those of one of the four messages, in a header of one of the three message types: each fits its
-- element, one that the message does not have is 0, and all of it the output.
pub record Buildable (carrier flag : ℕ) (m : Message) (n bytes lent : ℕ) : Type 0 where
  pub lowest : 22 ≤ carrier
  pub highest : carrier ≤ 24
  -- one of the four kinds, a transfer not in a DM-SDS ACK
  pub least : ack_of carrier + 1 ≤ m.kind
  pub most : m.kind ≤ 4
  pub protocol : m.kind ≤ 3 → 128 ≤ m.protocol
  pub stored : m.kind ≤ 2 → m.storage ≡ 1 → direct m.forward ≡ true
  -- flags: a DM-SDS ACK has no calling party, an ack and a short report no storage
  pub flagged : flag ≤ 1
  pub addressed : m.addressed ≤ 1 - ack_of carrier
  pub storage : m.storage ≤ per m.kind 1 1 0 0
  -- numbers
  pub mni : m.mni < 2 ^ (24 * m.addressed)
  pub ssi : m.ssi < 2 ^ (24 * m.addressed)
  pub octet : m.protocol < 2 ^ per m.kind 8 8 8 0
  pub request : m.request < 2 ^ per m.kind 2 0 0 0
  pub short : m.short < 2 ^ per m.kind 1 0 0 0
  pub required : m.required < 2 ^ per m.kind 0 1 0 0
  pub status : m.status < 2 ^ per m.kind 0 8 8 2
  pub reference : m.reference < 2 ^ 8
  pub validity : m.validity < 2 ^ (5 * m.storage)
  pub forward : m.forward < 2 ^ (3 * m.storage)
  pub address : m.address < 2 ^ forward_width m.forward
  -- user data, which an ack and a short report do not have
  pub none : 3 ≤ m.kind → n ≡ 0
  pub user : n ≤ 8 * bytes
  pub long : length_for (shape_for (ack_of carrier) m) n ≤ most_for (ack_of carrier) flag
  pub room : bits_for carrier flag m n ≤ 8 * lent
