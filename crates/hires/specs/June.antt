-- June's bill. A transfer that is built by both layers and heard whole goes to `book` exactly once, and is read as
-- exactly that transfer. Of two such sendings with the same source and reference, with fewer than 32 bookings between,
-- at most one is booked, and exactly one if the first is. From fresh bookings, where the pair did not come before, the
-- first is booked and the second is not.
-- (A first sending that was itself marked "again" is another matter: `again` moves nothing, so that the pair may fall
-- out of the index soon after, and then the second sending is the one that is booked.)
use Rattle.std.specs.Prelude.{◌≡◌, ◌⊎◌, Bool, true, false, List, ℕ, ◌*◌, ◌≤◌, ◌<◌, length, take}
use Rattle.bits.specs.Bits.{bits_of}
use Rattle.blocks.specs.declared.header.Fields.{Fields}
use Rattle.history.specs.Line.{Line, start, ◌▸◌, ◌⧺◌, each, Every}
use Rattle.history.specs.History.{Copies}
use Rattle.reports.specs.Lent.{Lent, for_unit}
use Rattle.reports.specs.Units.{settings_fit}
use Rattle.reports.specs.declared.unit.Settings.{Settings}
use Rattle.receiver.specs.Reached.{reports, Accepted}
use Rattle.transport.specs.Layouts.{ack_of, at}
use Rattle.transport.specs.Reading.{flag_of}
use Rattle.transport.specs.Building.{shape_for, sdu_of, out_of}
use Rattle.transport.specs.Well.{user_in}
use Rattle.transport.specs.declared.Message.{Message}
use Rattle.transport.specs.declared.Sdu.{Sdu}
use Rattle.transport.specs.declared.Transport.{Transport}
use Rattle.bookings.specs.Pairs.{Pair, booked, On, times}
use Rattle.bookings.specs.Kept.{bookings_at}
use Rattle.bookings.specs.Calls.{Call, after, marked, transfers}
use Rattle.ends.specs.EndToEnd as sent
use Rattle.ends.specs.EndToEnd.{Build, k, header_lent, header_report, Sent, handed}
use Rattle.hires.specs.Program.{Step, accepted, calls, marks, Program, message_in, transfers_in}

-- ---- What is sent.

-- A transfer in the header that carries it, with n bits of the lent user data: the upper `build`, for the message type
-- of that header and the FCS flag in it, is not refused. (So the message type is 22 or 23.)
pub record Hire : Type 0 where
  pub fields : Fields
  pub transfer : Message
  pub n : ℕ
  pub user : List ℕ
  pub out : List ℕ
  pub kind : transfer.kind ≡ 1
  pub taken : (sdu_of fields.message (flag_of fields.elements) transfer n (length user) (length out)).fault ≡ 0

-- What the upper `build` answers, and its output afterwards; these bits are the message for the lower `build`.
abbrev pub sdu : Hire → Sdu
sdu h =
    let g = h.fields in
    sdu_of g.message (flag_of g.elements) h.transfer h.n (length h.user) (length h.out)

abbrev pub output : Hire → List ℕ
output h = let g = h.fields in out_of g.message (flag_of g.elements) h.transfer h.n h.user h.out

abbrev pub message : Hire → sent.Message
message h = record { fields = h.fields; n = (sdu h).bits; lent = output h }

-- Its pair, and its user data.
abbrev pub pair : Hire → Pair
pair h = record { source = h.fields.source.ssi; reference = h.transfer.reference }

abbrev pub user_bits : Hire → List Bool
user_bits h = take h.n (bits_of h.user)

-- ---- How it arrives.

-- The hire is heard whole in these steps, after those before: it is for this unit; the accepted reports are that of its
-- header and those after it, slot by slot, as `Sent` has them, to the last block and as long as you like after it; and
-- one that goes into the header is no copy of what was heard before.
pub record Arrives (s : Settings) (before : Line Step) (h : Hire) (xs : Line Step) : Type 0 where
  pub build : Build (message h)
  pub for_us : for_unit s h.fields ≡ true
  pub rest : Line Lent
  pub heard : accepted xs ≡ start ▸ header_lent (message h) build ⧺ rest
  pub whole : Sent s (message h) build rest (k (message h))
  pub no_copy : k (message h) ≡ 0 → Copies (reports s (accepted before)) (header_report s (message h) build) → ⊥

-- What `book` answers to it: no fault, the transfer, the place of its user data, and their number.
abbrev pub read_back : Hire → Transport
read_back h =
    let first = at 20 (shape_for (ack_of h.fields.message) h.transfer) in
    record { fault = 0; message = h.transfer; first = first; bits = h.n }

-- These steps call `book` exactly once, with exactly this hire: the fields of its header, so its source; its elements,
-- so its reference; and its user data.
pub record BookedAs (h : Hire) (xs : Line Step) : Type 0 where
  pub call : Call
  pub once : calls xs ≡ start ▸ call
  pub fields : call.lent.fields ≡ h.fields
  pub read : call.reply.booked.transport ≡ read_back h
  pub user : user_in (read_back h) (message_in call).bits ≡ user_bits h

-- ---- June's bill.

-- Two sendings with the same source and the same reference, and fewer than 32 bookings between; anything may be heard
-- before and between. All else of the two may differ: the builds, their countdowns and repeats, other fields, elements
-- and user data.
pub record TwoSendings (s : Settings) : Type 0 where
  pub before : Line Step
  pub first : Line Step
  pub between : Line Step
  pub second : Line Step
  pub program : Program s (before ⧺ first ⧺ between ⧺ second)
  pub hire : Hire
  pub same : Hire
  pub source : same.fields.source.ssi ≡ hire.fields.source.ssi
  pub reference : same.transfer.reference ≡ hire.transfer.reference
  pub arrives : Arrives s before hire first
  pub arrives_again : Arrives s (before ⧺ first ⧺ between) same second
  pub few : length (marked (calls between)) < 32

pub record June : Type 0 where
  -- There is such a program, with any settings in range; and whatever it heard so far, any list of accepted reports can
  -- come next.
  pub begun : (individual group mni : ℕ) → settings_fit individual group mni ≡ true
      → Program (record { individual = individual; group = group; mni = mni }) start
  pub any : (s : Settings) (xs : Line Step) → Program s xs → (ls : Line Lent) → Every Accepted ls
      → (ys : Line Step) × Program s (xs ⧺ ys) × (accepted ys ≡ ls)
  -- Each message that is handed over goes to `book`, whole and in order, and nothing else does.
  pub handed_on : (s : Settings) (xs ys : Line Step) → Program s (xs ⧺ ys)
      → each message_in (calls ys) ≡ handed (reports s (accepted xs)) (reports s (accepted ys))
  pub in_full : (s : Settings) (xs : Line Step) → Program s xs
      → Every (λ c. c.lent.n ≤ 8 * length c.lent.sdu) (calls xs)
  -- So the transfers, what is booked of them, newest first, and the index hang on the accepted reports alone.
  pub by_reports : (s : Settings) (xs : Line Step) → Program s xs
      → let ts = transfers_in (handed start (reports s (accepted xs))) in
      (transfers (calls xs) ≡ ts) × (marked (calls xs) ≡ booked ts) × (after (calls xs) ≡ bookings_at ts)
  -- A hire for this unit can be heard whole, whatever was heard before, if it is no copy; its header names slot 1 or 3.
  pub possible : (s : Settings) (before : Line Step) → Program s before → (h : Hire) (b : Build (message h))
      → (b.sync.slot ≡ 0) ⊎ (b.sync.slot ≡ 2) → for_unit s h.fields ≡ true
      → (k (message h) ≡ 0 → Copies (reports s (accepted before)) (header_report s (message h) b) → ⊥)
      → (xs : Line Step) × Program s (before ⧺ xs) × Arrives s before h xs
  -- One that is heard whole goes to `book` exactly once, and is read as exactly that transfer; so it is booked, or
  -- marked "again".
  pub arrives : (s : Settings) (before xs : Line Step) (h : Hire) → Program s (before ⧺ xs) → Arrives s before h xs
      → BookedAs h xs
  pub one_mark : (s : Settings) (before xs : Line Step) (h : Hire) → Program s (before ⧺ xs) → Arrives s before h xs
      → (marks xs ≡ start ▸ 1) ⊎ (marks xs ≡ start ▸ 2)
  -- One for another unit never goes to `book`, heard whole or in part.
  pub not_ours : (s : Settings) (before xs : Line Step) → Program s (before ⧺ xs) → (h : Hire) (b : Build (message h))
      → for_unit s h.fields ≡ false → (rest : Line Lent) (i : ℕ)
      → accepted xs ≡ start ▸ header_lent (message h) b ⧺ rest → Sent s (message h) b rest i → calls xs ≡ start
  -- Of the two sendings at most one is booked: one of them is marked "again".
  pub at_most_once : (s : Settings) (t : TwoSendings s)
      → (marks t.first ≡ start ▸ 2) ⊎ (marks t.second ≡ start ▸ 2)
  -- If the first is booked the second is not; and from the first to the second, however often the hire came between, it
  -- was booked exactly once.
  pub exactly_once : (s : Settings) (t : TwoSendings s) → marks t.first ≡ start ▸ 1
      → (marks t.second ≡ start ▸ 2)
      × (times (pair t.hire) (marked (calls (t.first ⧺ t.between ⧺ t.second))) ≡ 1)
  -- Where no transfer with this pair came before, the first is booked and the second is not; and in all that the
  -- program ever heard, the hire was booked exactly once.
  pub from_fresh : (s : Settings) (t : TwoSendings s) → (On (pair t.hire) (transfers (calls t.before)) → ⊥)
      → (marks t.first ≡ start ▸ 1) × (marks t.second ≡ start ▸ 2)
      × (times (pair t.hire) (marked (calls (t.before ⧺ t.first ⧺ t.between ⧺ t.second))) ≡ 1)
