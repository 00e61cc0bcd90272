-- Demand 2. Built blocks are those of EN 300 396-3, bit for bit, for every message whose fields are in range, whose
-- header fits and which needs at most fifteen continuation blocks. Reading them gives the message back. An unfragmented
-- header that reads well, reserved bits zero, builds again to the same bits.
-- The functions of src/ make these calls, and ensure what is said here of them.
use Rattle.std.specs.Prelude.{◌≡◌, Bool, false, List, ◌∷◌, ◌++◌, ◌⊎◌, ℕ, suc, ◌+◌, ◌-◌, ◌*◌, ◌^◌, ◌≤◌, ◌<◌, min}
use Rattle.std.specs.Prelude.{length, take, drop, replicate}
use Rattle.bits.specs.Bits.{bits_n, bits_of, field, AllBytes}
use Rattle.bits.specs.Fill.{filled}
use Rattle.bits.specs.Layout.{pack, element}
use Rattle.bits.specs.Runs.{joined}
use Rattle.blocks.specs.Faults.{GivenFirst}
use Rattle.blocks.specs.Widths.{entry_of, width_of}
use Rattle.blocks.specs.Sdu.{bits_of_message, fill_told}
use Rattle.blocks.specs.Sync.{sync_layout, sync_parts}
use Rattle.blocks.specs.Header.{address_width, sdu_at, body_of, message_of_header, read_header}
use Rattle.blocks.specs.Continuation.{continuation_parts, read_continuation}
use Rattle.blocks.specs.Slots.{in_header}
use Rattle.build.specs.Plan.{header_bits, fragmented_for, blocks_for, build_checks}
use Rattle.build.specs.Build.{shape_for, header_parts, header_block, continuation_blocks, built_bits, built_bytes}
use Rattle.build.specs.Build.{build_of}
use Rattle.build.specs.Build.{out_of, sch_s, sch_h, sch_fs, block_bits, last_when}
use Rattle.blocks.specs.declared.sync.Sync.{Sync}
use Rattle.blocks.specs.declared.header.Fields.{Fields}
use Rattle.blocks.specs.declared.header.Address.{Address}
use Rattle.blocks.specs.declared.header.Header.{Header}
use Rattle.blocks.specs.declared.continuation.Continuation.{Continuation}
use Rattle.build.specs.declared.Built.{Built}

-- A call of `build`: SCH/S's fields, the countdown, the header's fields, n, the lent message and the lent output.
pub record Call : Type 0 where
  pub sync : Sync
  pub countdown : ℕ
  pub fields : Fields
  pub n : ℕ
  pub message : List ℕ
  pub out : List ℕ

-- The message's bits; the header's bits without the slot count, h; the number of continuation blocks, k.
abbrev pub bits : Call → List Bool
bits c = take c.n (bits_of c.message)

abbrev pub h : Call → ℕ
h c = header_bits c.fields

abbrev pub k : Call → ℕ
k c = blocks_for c.fields c.n

-- What the call answers, and its output afterwards.
abbrev pub answer : Call → Built
answer c = build_of c.sync c.countdown c.fields c.n (length c.message) (length c.out)

abbrev pub after : Call → List ℕ
after c = out_of c.sync c.countdown c.fields c.n c.message c.out

-- An address in range: its type is not the reserved one (8), and an absent one is 0 (13).
pub record AddressInRange (a : Address) : Type 0 where
  pub kind : a.kind ≤ 2
  pub ssi : a.ssi < 2 ^ address_width a.kind

-- Fields in range: none of 3, 7, 13, 8, 9 is given.
pub record InRange (c : Call) : Type 0 where
  pub system : (10 ≤ c.sync.system) × (c.sync.system ≤ 15)
  pub frame : (1 ≤ c.sync.frame) × (c.sync.frame ≤ 18)
  pub usage : c.sync.usage ≤ 3
  pub slot : c.sync.slot ≤ 3
  pub countdown : c.countdown ≤ 3
  pub destination : AddressInRange c.fields.destination
  pub source : AddressInRange c.fields.source
  pub mni : c.fields.mni < 2 ^ 24
  pub message : c.fields.message ≤ 31
  pub listed : (entry_of c.fields.message).width ≤ 254
  pub table :
      width_of (entry_of c.fields.message) (bits_n c.fields.width c.fields.elements) ≡ c.fields.width
  pub elements : c.fields.elements < 2 ^ c.fields.width
  pub lent : c.n ≤ 8 * length c.message
  pub header : (c.n + h c ≤ 124) ⊎ (h c + 4 ≤ 124)

-- The rules of the call, in the order 3, 7, 13, 8, 9, 14, 1.
abbrev pub checks : Call → List ℕ
checks c = build_checks c.sync c.countdown c.fields c.n (length c.message) (length c.out)

-- ---- The demand.

-- An output that starts with a built message.
abbrev pub built : Call → List ℕ
built c = built_bytes c.sync c.countdown c.fields (bits c)

-- Its bits, as the layouts have them: SCH/S, SCH/H and the blocks, each with its pad bits.
abbrev pub laid_out : Call → List Bool
laid_out c = built_bits c.sync c.countdown c.fields (bits c)

-- What is handed back when the header of an output is read.
abbrev pub header_back : Call → Header
header_back c =
    let f = fragmented_for c.fields c.n in
    record {
      fault = 0;
      sync = c.sync;
      fragmented = f;
      count = k c;
      countdown = c.countdown;
      fields = c.fields;
      first = sdu_at (shape_for f c.fields);
      bits = in_header (h c) c.n;
    }

-- Block i of an output, and what is handed back when it is read: a DMAC-FRAG, or the last, a DMAC-END, with 264 bits or
-- those that are left.
abbrev pub sch_f : ℕ → List ℕ → List ℕ
sch_f i out = take 34 (drop (34 * i) (drop 24 out))

abbrev pub block_back : Call → ℕ → Continuation
block_back c i =
    record {
      fault = 0;
      last = last_when (k c - suc i);
      first = 4;
      bits = min 264 (c.n - in_header (h c) c.n - 264 * i);
    }

-- The message bits of a header's SCH/H.
abbrev pub header_message : List ℕ → List Bool
header_message b = bits_of_message (message_of_header (body_of (bits_of b)) (bits_of b))

-- Four pad bits.
abbrev pub padded : List Bool → List Bool
padded b = b ++ replicate 4 false

-- What the demand speaks of: fields in range, at most fifteen blocks, and an output that is long enough.
pub record Buildable (c : Call) : Type 0 where
  pub in_range : InRange c
  pub few : k c ≤ 15
  pub room : 24 + 34 * k c ≤ length c.out

-- What such a call answers, and the output after it. The answer is 0 and k; the output starts with the built bytes, bit
-- for bit as they are laid out, and the rest is unchanged. Reading SCH/S with SCH/H gives back the fields, the flag and
-- the count; the blocks read as DMAC-FRAG but the last, DMAC-END; and the message bits of header and blocks, joined in
-- order, are the message's n bits.
pub record WellBuilt (c : Call) (r : Built) (after : List ℕ) : Type 0 where
  pub answer : r ≡ record { fault = 0; blocks = k c }
  pub bytes : after ≡ built c ++ drop (24 + 34 * k c) c.out
  pub bit_for_bit : bits_of (take (24 + 34 * k c) after) ≡ laid_out c
  pub header_reads_back : read_header (sch_s after) (sch_h after) ≡ header_back c
  pub blocks_back : (i : ℕ) → i < k c → read_continuation (sch_f i after) ≡ block_back c i
  pub message_back : joined (header_message (sch_h after) ∷ block_bits (sch_fs (k c) after)) ≡ bits c

-- What any call answers, and the output after it. Refusals are exact: nothing is refused but what the table says, in
-- its order; what is refused leaves every byte of the output.
pub record Builds (c : Call) (r : Built) (after : List ℕ) : Type 0 where
  pub well : Buildable c → WellBuilt c r after
  pub taken : r.fault ≡ 0 → Buildable c
  pub refused : (n : ℕ) → r.fault ≡ suc n → GivenFirst n (checks c) × (r.blocks ≡ 0) × (after ≡ c.out)

-- An unfragmented header that reads well, with its reserved bits zero; its own message bits, lent; and room for it.
pub record Rebuildable (s b lent out : List ℕ) : Type 0 where
  pub bytes_s : AllBytes s
  pub bytes_h : AllBytes b
  pub well : (read_header s b).fault ≡ 0
  pub unfragmented : (read_header s b).fragmented ≡ 0
  pub reserved_3 : element sync_layout 3 (bits_of s) ≡ 0
  pub reserved_8 : element sync_layout 8 (bits_of s) ≡ 0
  pub reserved_h : field 0 10 (bits_of b) ≡ 0
  pub message : take (read_header s b).bits (bits_of lent) ≡ header_message b
  pub all_lent : (read_header s b).bits ≤ 8 * length lent
  pub room : 24 ≤ length out

-- The call of `build` with what was read.
abbrev pub again : Header → List ℕ → List ℕ → Call
again r lent out =
    record { sync = r.sync; countdown = r.countdown; fields = r.fields; n = r.bits; message = lent; out = out }

-- It gives the same bytes.
abbrev pub Rebuilt : List ℕ → List ℕ → List ℕ → Built → List ℕ → Type 0
Rebuilt s b out r after = (r ≡ record { fault = 0; blocks = 0 }) × (after ≡ (s ++ b) ++ drop 24 out)

pub record Demand2 : Type 0 where
  -- 1. What a build answers and writes, and what reading it gives.
  pub builds : (c : Call) → Builds c (answer c) (after c)
  -- 2. The layout. n at most 124 - h: SCH/S and one unfragmented header, with fill where bits are left over.
  pub unfragmented : (c : Call) → InRange c → c.n + h c ≤ 124
      → (k c ≡ 0) × (laid_out c ≡ pack (sync_parts c.sync) ++ header_block 0 0 c.countdown c.fields (bits c))
  -- Otherwise the header is full with the first 120 - h bits, no fill, and the others go 264 to a block, no block
  -- needless.
  pub fragmented : (c : Call) → InRange c → 124 < c.n + h c → let i = 120 - h c in
      (264 * k c < c.n - i + 264) × (c.n - i ≤ 264 * k c) × (1 ≤ k c)
      × (laid_out c
      ≡ (pack (sync_parts c.sync)
      ++ (pack (header_parts 0 1 (k c) c.countdown c.fields) ++ padded (take i (bits c))))
      ++ continuation_blocks (k c) (drop i (bits c)))
  -- Of more blocks than one, the first is a DMAC-FRAG, full and without fill; a single one is a DMAC-END, filled.
  pub frag : (j : ℕ) (r : List Bool) → 264 ≤ length r
      → continuation_blocks (suc (suc j)) r
      ≡ (pack (continuation_parts 0 0) ++ padded (take 264 r)) ++ continuation_blocks (suc j) (drop 264 r)
  pub end : (r : List Bool) → length r ≤ 264
      → continuation_blocks 1 r ≡ pack (continuation_parts 1 (fill_told 264 r)) ++ padded (filled 264 r)
  -- 3. An unfragmented header that reads well, with its reserved bits zero, builds again, from what was read and its
  -- own message bits, to the same bytes.
  pub rebuilds : (s b lent out : List ℕ) → Rebuildable s b lent out
      → let c = again (read_header s b) lent out in Rebuilt s b out (answer c) (after c)
  -- 4. Two builds of different fields or messages never give the same bytes.
  pub different : (c d : Call) → InRange c → InRange d → k c ≤ 15 → k d ≤ 15 → built c ≡ built d
      → (c.sync ≡ d.sync) × (c.countdown ≡ d.countdown) × (c.fields ≡ d.fields) × (bits c ≡ bits d)
