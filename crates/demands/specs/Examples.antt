-- The twelve examples of document 01, 'Twelve examples to prove, as one table'.
use Rattle.std.specs.Prelude.{◌≡◌, Bool, false, List, [], ◌∷◌, ℕ, zero, suc, ◌-◌, ◌*◌, replicate}
use Rattle.bits.specs.Bits.{bit, bits_n, bytes_n}
use Rattle.blocks.specs.Faults.{unless}
use Rattle.blocks.specs.Sdu.{sdu_of, is_there, bits_of_message}
use Rattle.blocks.specs.Header.{read_header}
use Rattle.blocks.specs.Slots.{due_of}
use Rattle.build.specs.Plan.{Planned, plan_of}
use Rattle.build.specs.Build.{continuation_block, built_bytes, build_of, sch_s, sch_h}
use Rattle.blocks.specs.declared.sync.Sync.{Sync}
use Rattle.blocks.specs.declared.header.Fields.{Fields}

-- An example: what the definitions give, and what the document says.
pub record Example : Type 0 where
  pub given : List ℕ
  pub stated : List ℕ

abbrev pub ◌gives◌ : List ℕ → List ℕ → Example
a gives b = record { given = a; stated = b }

infixl 5 ◌gives◌
-- How n message bits go after a header of h bits without its slot count: the fault; and if that is 0 the bits in the
-- header, its fill bits, the number of continuation blocks, and the bits in the last of them.
abbrev last_bits : ℕ → ℕ → ℕ
last_bits zero rest = 0
last_bits (suc k) rest = rest - 264 * k

abbrev laid_as : ℕ → ℕ → ℕ → Planned → List ℕ
laid_as zero h n p =
    0 ∷
    p.inside ∷
    (124 - h - 4 * p.fragmented - p.inside) ∷
    p.blocks ∷
    last_bits p.blocks (n - p.inside) ∷
    []
laid_as (suc f) h n p = suc f ∷ []

abbrev laid : ℕ → ℕ → List ℕ
laid h n = let p = plan_of 0 2 10 h n 1024 in laid_as p.fault h n p

-- The same through a real build, of a header of 93 bits: no source address, DM-PREEMPT with timing adjustment; a
-- message of n zeros. The fault and the number of continuation blocks.
abbrev sync : Sync
sync = record { system = 13; usage = 0; slot = 0; frame = 5 }

abbrev fields : Fields
fields =
    record {
      destination = record { kind = 0; ssi = 0x123456 };
      source = record { kind = 2; ssi = 0 };
      mni = 0xabcdef;
      message = 18;
      width = 22;
      elements = 0b0010000000000000000000;
    }

abbrev build : ℕ → List ℕ
build n = let r = build_of sync 0 fields n 512 1024 in r.fault ∷ r.blocks ∷ []

-- And what its header reads as: the fault, the fragmentation flag, the slot count, and the message bits in the header.
abbrev read : ℕ → List ℕ
read n =
    let out = built_bytes sync 0 fields (replicate n false) in
    let r = read_header (sch_s out) (sch_h out) in
    r.fault ∷ r.fragmented ∷ r.count ∷ r.bits ∷ []

-- The first due frame after a header in frame x with countdown f: the fault, and the frame.
abbrev due : ℕ → ℕ → List ℕ
due x f = (due_of x f 0).fault ∷ (due_of x f 0).frame ∷ []

abbrev numbers : List Bool → List ℕ
numbers [] = []
numbers (b ∷ bs) = bit b ∷ numbers bs

-- A DM-SDU's room of w bits that are this number's, with fill told of: the fault, and the message bits.
abbrev room : ℕ → ℕ → List ℕ
room w v = let o = sdu_of 1 (bits_n w v) in unless (is_there o) 11 ∷ numbers (bits_of_message o)

-- DMAC-END carrying these bits: its bytes.
abbrev end : ℕ → ℕ → List ℕ
end w v = bytes_n 34 (continuation_block 1 (bits_n w v))

abbrev pub examples : List Example
examples =
    (laid 93 31 gives 0 ∷ 31 ∷ 0 ∷ 0 ∷ 0 ∷ []) ∷
    (laid 93 30 gives 0 ∷ 30 ∷ 1 ∷ 0 ∷ 0 ∷ []) ∷
    (laid 93 32 gives 0 ∷ 27 ∷ 0 ∷ 1 ∷ 5 ∷ []) ∷
    (laid 93 291 gives 0 ∷ 27 ∷ 0 ∷ 1 ∷ 264 ∷ []) ∷
    (laid 93 292 gives 0 ∷ 27 ∷ 0 ∷ 2 ∷ 1 ∷ []) ∷
    (laid 93 3987 gives 0 ∷ 27 ∷ 0 ∷ 15 ∷ 264 ∷ []) ∷
    (laid 93 3988 gives 14 ∷ []) ∷
    (due 17 0 gives 0 ∷ 1 ∷ []) ∷
    (due 18 3 gives 0 ∷ 4 ∷ []) ∷
    (room 7 0b1011000 gives 0 ∷ 1 ∷ 0 ∷ 1 ∷ []) ∷
    (room 4 0b0000 gives 11 ∷ []) ∷
    (end 5 0b10110 gives 0x7b ∷ 0x40 ∷ replicate 32 0) ∷
    []

-- The first seven again, built and read.
abbrev pub builds : List Example
builds =
    (build 31 gives 0 ∷ 0 ∷ []) ∷
    (build 30 gives 0 ∷ 0 ∷ []) ∷
    (build 32 gives 0 ∷ 1 ∷ []) ∷
    (build 291 gives 0 ∷ 1 ∷ []) ∷
    (build 292 gives 0 ∷ 2 ∷ []) ∷
    (build 3987 gives 0 ∷ 15 ∷ []) ∷
    (build 3988 gives 14 ∷ 0 ∷ []) ∷
    (read 31 gives 0 ∷ 0 ∷ 0 ∷ 31 ∷ []) ∷
    (read 30 gives 0 ∷ 0 ∷ 0 ∷ 30 ∷ []) ∷
    (read 32 gives 0 ∷ 1 ∷ 1 ∷ 27 ∷ []) ∷
    []

-- Every example of a table holds.
abbrev pub AllHold : List Example → Type 0
AllHold [] = Unit {0}
AllHold (e ∷ es) = (e.given ≡ e.stated) × AllHold es
