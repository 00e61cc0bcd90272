-- Request 04: transport layer messages, and one booking for each.
-- The four SDS-TL messages (transfer, report, ack, short report) inside the DM-SDU elements of EN 300 396-3, 9.7:
-- `read` promises `read_of`, `build` promises `sdu_of` and `out_of`. The widths of all elements are one list, `layout`,
-- and the rules are `read_checks` and `build_checks`, in crates/transport/specs.
-- Beside them the index of the last 32 booked pairs of source address and message reference: `fresh` promises
-- `bookings_at start`, `book` promises `Books`, in crates/bookings/specs. Its calls begin with `fresh`, and each is
-- handed the record that the one before gave.
use Rattle.std.specs.Prelude.{◌≡◌, ◌↔◌, Bool, List, ◌∷◌, ℕ, ◌*◌, ◌^◌, ◌≤◌, ltb, length, take}
use Rattle.bits.specs.Bits.{bits_of}
use Rattle.blocks.specs.Faults.{unless}
use Rattle.store.specs.Store.{handed}
use Rattle.history.specs.Line.{Line, ◌▸◌, ◌⧺◌, Every}
use Rattle.transport.specs.Layouts.{ack_of, per, Shape, at}
use Rattle.transport.specs.Elements.{shape_of}
use Rattle.transport.specs.Reading.{flag_of, sdu_bits, read_checks, refused_transport, read_of}
use Rattle.transport.specs.Building.{shape_for, built_bits, build_checks, sdu_of, out_of}
use Rattle.transport.specs.Well.{ReadsWell, user_in, Accounts, Exact, Buildable}
use Rattle.transport.specs.declared.Message.{Message}
use Rattle.transport.specs.declared.Transport.{Transport}
use Rattle.transport.specs.declared.Sdu.{Sdu}
use Rattle.bookings.specs.Pairs.{Pair, In, last32, On, times}
use Rattle.bookings.specs.Kept.{record_of}
use Rattle.bookings.specs.Book.{Lent, reading_of, Transfer}
use Rattle.bookings.specs.Calls as book
use Rattle.bookings.specs.Calls.{Call, mark, pair, InTurn, marked, transfers}
use Rattle.demands.specs.Demand1.{Settles}

-- ---- The calls.

-- A call of `read`: the header's message type and elements, and the first n bits of the lent DM-SDU.
pub record Reads : Type 0 where
  pub carrier : ℕ
  pub elements : ℕ
  pub n : ℕ
  pub sdu : List ℕ

-- What it answers, and its rules: 13, 21, 22.
abbrev pub found : Reads → Transport
found r = read_of r.carrier r.elements r.n r.sdu

abbrev pub read_rules : Reads → List ℕ
read_rules r = read_checks r.carrier r.elements r.n r.sdu

-- The bits that it reads, the FCS flag, and what decides the widths of the elements in them.
abbrev pub bits_read : Reads → List Bool
bits_read r = sdu_bits r.n r.sdu

abbrev pub flag_read : Reads → ℕ
flag_read r = flag_of r.elements

abbrev pub shape_read : Reads → Shape
shape_read r = shape_of (ack_of r.carrier) (bits_read r)

-- A call of `build`: the header's message type, the FCS flag, the message, n bits of the lent user data, and the lent
-- output.
pub record Builds : Type 0 where
  pub carrier : ℕ
  pub flag : ℕ
  pub message : Message
  pub n : ℕ
  pub user : List ℕ
  pub out : List ℕ

-- What it answers, its output afterwards, and its rules: 21, 13, 1.
abbrev pub answer : Builds → Sdu
answer b = sdu_of b.carrier b.flag b.message b.n (length b.user) (length b.out)

abbrev pub after : Builds → List ℕ
after b = out_of b.carrier b.flag b.message b.n b.user b.out

abbrev pub build_rules : Builds → List ℕ
build_rules b = build_checks b.carrier b.flag b.message b.n (length b.user) (length b.out)

-- The user data; and the DM-SDU: the elements by the layout, the user data, and the FCS if the flag is 1.
abbrev pub user_bits : Builds → List Bool
user_bits b = take b.n (bits_of b.user)

abbrev pub built : Builds → List Bool
built b = built_bits b.carrier b.flag b.message (user_bits b)

-- What a build's output reads as: the message, every element, and the place and number of its user data, which an ack
-- and a short report do not have.
abbrev pub back : Builds → Transport
back b =
    let m = b.message in
    let first = at 20 (shape_for (ack_of b.carrier) m) in
    record { fault = 0; message = m; first = per m.kind first first 0 0; bits = per m.kind b.n b.n 0 0 }

-- Reading the output again, with header elements whose last bit is the FCS flag; and building again what was read, with
-- its user data lent.
abbrev pub read_again : Builds → ℕ → Reads
read_again b elements = record { carrier = b.carrier; elements = elements; n = (answer b).bits; sdu = after b }

abbrev pub build_again : Reads → (user out : List ℕ) → Builds
build_again r user out =
    record {
      carrier = r.carrier;
      flag = flag_read r;
      message = (found r).message;
      n = (found r).bits;
      user = user;
      out = out;
    }

-- The rules of `book`: 13 for a source of 2^24 or more, and then those of reading.
abbrev pub book_rules : Lent → List ℕ
book_rules l =
    unless (ltb l.fields.source.ssi (2 ^ 24)) 13
    ∷ read_checks l.fields.message l.fields.elements l.n l.sdu

-- ---- The request.

pub record Req04 : Type 0 where
  -- Reading is refused in the order 13, 21, 22, for nothing but what its rules say. Refused, all but the number is 0.
  pub reads : (r : Reads) → Settles (read_rules r) (found r).fault (λ f. found r ≡ refused_transport f)
  -- In plain facts: exactly what is all lent and is one of the four messages, whole, is not refused.
  pub reads_well : (r : Reads)
      → ((found r).fault ≡ 0) ↔ ((r.n ≤ 8 * length r.sdu) × ReadsWell r.carrier (flag_read r) (bits_read r))
  -- Then the answer is what stands there, and its elements and user data account for every bit up to the FCS.
  pub accounts : (r : Reads) → (found r).fault ≡ 0 → Accounts (flag_read r) (shape_read r) (bits_read r) (found r)
  -- Building is refused in the order 21, 13, 1, for nothing but what its rules say. Refused, the answer is the number
  -- and 0 bits, and every byte of the output is as it was.
  pub builds : (b : Builds)
      → Settles (build_rules b) (answer b).fault (λ f. (answer b ≡ record { fault = f; bits = 0 }) × (after b ≡ b.out))
  -- In plain facts: exactly a message whose numbers fit their elements, with an output that is long enough, is not
  -- refused.
  pub buildable : (b : Builds)
      → ((answer b).fault ≡ 0)
      ↔ Buildable b.carrier b.flag b.message b.n (length b.user) (length b.out)
  -- Not refused, it writes the DM-SDU at the output's start, the last byte's spare bits zero, and answers its number of
  -- bits, which the output has room for; every later byte is as it was.
  pub writes : (b : Builds) → (answer b).fault ≡ 0
      → (answer b ≡ record { fault = 0; bits = length (built b) }) × (after b ≡ handed (built b) b.out)
      × (length (built b) ≤ 8 * length b.out)
  -- What is built reads back, every element; and its user data stand where the answer says.
  pub reads_back : (b : Builds) → (answer b).fault ≡ 0 → (elements : ℕ) → flag_of elements ≡ b.flag
      → found (read_again b elements) ≡ back b
  pub user_back : (b : Builds) → (answer b).fault ≡ 0
      → user_in (back b) (sdu_bits (answer b).bits (after b)) ≡ user_bits b
  -- What reads well, with reserved bits zero and nothing after it, builds again to the same bits.
  pub rebuilds : (r : Reads) → (found r).fault ≡ 0 → Exact (flag_read r) (shape_read r) (bits_read r)
      → (user out : List ℕ)
      → (found r).bits ≤ 8 * length user → take (found r).bits (bits_of user) ≡ user_in (found r) (bits_read r)
      → r.n ≤ 8 * length out
      → let b = build_again r user out in
      (answer b ≡ record { fault = 0; bits = r.n }) × (after b ≡ handed (bits_read r) out)
  -- And nothing else does.
  pub rebuilds_only : (r : Reads) → (found r).fault ≡ 0 → (user out : List ℕ)
      → take (found r).bits (bits_of user) ≡ user_in (found r) (bits_read r)
      → let b = build_again r user out in
      (answer b).fault ≡ 0 → built b ≡ bits_read r → Exact (flag_read r) (shape_read r) (bits_read r)
  -- Two builds of different messages or user data differ.
  pub different : (b c : Builds) → (answer b).fault ≡ 0 → (answer c).fault ≡ 0 → b.carrier ≡ c.carrier
      → b.flag ≡ c.flag → built b ≡ built c → (b.message ≡ c.message) × (user_bits b ≡ user_bits c)
  -- Booking is refused in the order 13, 21, 22. Refused, the mark and all but the number are 0, and the index is
  -- unchanged.
  pub refuses : (c : Call)
      → Settles (book_rules c.lent) c.reply.booked.transport.fault
      (λ f. (c.reply.booked ≡ record { mark = 0; transport = refused_transport f }) × (c.reply.bookings ≡ c.before))
  -- The answer has what was read. A refused message and the other three kinds are marked 0; they and an "again" leave
  -- the index unchanged.
  pub read : (c : Call) → c.reply.booked.transport ≡ reading_of c.lent
  pub nothing : (cs : Line Call) (c : Call) → InTurn (cs ▸ c) → (mark c ≡ 0) ↔ (Transfer c.lent → ⊥)
  pub unchanged : (cs : Line Call) (c : Call) → InTurn (cs ▸ c) → (mark c ≡ 1 → ⊥) → c.reply.bookings ≡ c.before
  -- Over any list of transfers, anything else between: one is booked exactly if its pair is not among the last 32
  -- booked, and marked "again" exactly if it is. The index is the last 32 booked, newest first.
  pub booked : (cs : Line Call) (c : Call) → InTurn (cs ▸ c)
      → (mark c ≡ 1) ↔ (Transfer c.lent × (In (pair c) (last32 (marked cs)) → ⊥))
  pub again : (cs : Line Call) (c : Call) → InTurn (cs ▸ c)
      → (mark c ≡ 2) ↔ (Transfer c.lent × In (pair c) (last32 (marked cs)))
  pub index : (cs : Line Call) → InTurn cs → book.after cs ≡ record_of (marked cs)
  -- A pair is booked at its first transfer.
  pub first : (cs : Line Call) (c : Call) → InTurn (cs ▸ c) → Transfer c.lent → (On (pair c) (transfers cs) → ⊥)
      → mark c ≡ 1
  -- After its last booking it is booked again exactly when 32 others have been booked since.
  pub later : (cs ds : Line Call) (c d : Call) → InTurn (cs ▸ c ⧺ ds ▸ d) → mark c ≡ 1 → Transfer d.lent
      → pair d ≡ pair c → (In (pair c) (marked ds) → ⊥) → (mark d ≡ 1) ↔ (32 ≤ length (marked ds))
  -- Transfers of at most 32 different pairs, in any order and as often as you like: each pair is booked exactly once.
  pub once : (cs : Line Call) → InTurn cs → (ps : List Pair) → length ps ≤ 32 → Every (λ p. In p ps) (transfers cs)
      → (p : Pair) → On p (transfers cs) → times p (marked cs) ≡ 1
