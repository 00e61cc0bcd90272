-- Worked examples of request 04, by computation: FCS values, and a DM-SDU of each kind, built and read.
use Rattle.std.specs.Prelude.{Bool, true, false, List, [], ◌∷◌, ℕ, length, replicate}
use Rattle.std.proofs.Math.Bool.{xor}
use Rattle.bits.specs.Bits.{bit, num, bits_n, bits_of, test_bit}
use Rattle.fcs.specs.Polynomials.{mixed, times, lead, step, remainder}
use Rattle.fcs.specs.Annex.{generator, started, remainder_of, fcs_of}
use Rattle.transport.specs.Elements.{addressed_in, kind_in_data, kind_in, storage_in, forward_in}
use Rattle.transport.specs.Reading.{read_bits}
use Rattle.transport.specs.Building.{frame_bits, built_bits}
use Rattle.transport.specs.declared.Message.{Message}
use Rattle.transport.specs.declared.Transport.{Transport}
use Rattle.demands.specs.Examples.{Example, ◌gives◌, AllHold}
use Rattle.demands.proofs.ExamplesHold.{hold}

-- The FCS of these bits, as one number.
abbrev fcs : List Bool → List ℕ
fcs m = num (fcs_of m) ∷ []

-- What is read of w bits, given as one number, in a header of this message type with this FCS flag: the fault, the
-- kind, the calling party's SSI, the protocol identifier, storage, the status, the reference, the forward address, and
-- the user data's first bit and number.
abbrev shown : Transport → List ℕ
shown r =
    let m = r.message in
    r.fault ∷
    m.kind ∷
    m.ssi ∷
    m.protocol ∷
    m.storage ∷
    m.status ∷
    m.reference ∷
    m.address ∷
    r.first ∷
    r.bits ∷
    []

abbrev read : ℕ → ℕ → ℕ → ℕ → List ℕ
read carrier flag w v = shown (read_bits carrier flag (bits_n w v))

-- What is built, as its number of bits and one number.
abbrev built : ℕ → ℕ → Message → List Bool → List ℕ
built carrier flag m user = let b = built_bits carrier flag m user in length b ∷ num b ∷ []

-- A transfer: protocol identifier 130, delivery report request 01, message reference 7; and the user data A5.
abbrev transfer : Message
transfer =
    record {
      kind = 1;
      addressed = 0;
      mni = 0;
      ssi = 0;
      protocol = 130;
      request = 1;
      short = 0;
      required = 0;
      storage = 0;
      status = 0;
      reference = 7;
      validity = 0;
      forward = 0;
      address = 0;
    }

-- Additional addressing 0, SDTI 0011, length 32; 10000010, 0000, 01, 0, 0, 00000111; 10100101.
abbrev transfer_bits : ℕ
transfer_bits = 0b0_0011_00000100000_10000010_0000_01_0_0_00000111_10100101

-- A report in a DM-SDS ACK, with storage: validity period 3, forward address SSI 4660.
abbrev report : Message
report =
    record {
      kind = 2;
      addressed = 0;
      mni = 0;
      ssi = 0;
      protocol = 130;
      request = 0;
      short = 0;
      required = 1;
      storage = 1;
      status = 2;
      reference = 7;
      validity = 3;
      forward = 1;
      address = 0x1234;
    }

abbrev report_bits : ℕ
report_bits = 0b0001_0011_00001000000_10000010_0001_1_00_1_00000010_00000111_00011_001_000000000001001000110100

-- An SDS-ACK for a calling party, MNI 901 and SSI 5001; and a short report of type 10.
abbrev ack : Message
ack =
    record {
      kind = 3;
      addressed = 1;
      mni = 901;
      ssi = 5001;
      protocol = 130;
      request = 0;
      short = 0;
      required = 0;
      storage = 0;
      status = 2;
      reference = 7;
      validity = 0;
      forward = 0;
      address = 0;
    }

abbrev ack_bits : ℕ
ack_bits =
    0b1_0001_000000000000001110000101_000000000001001110001001_0011_00000100000_10000010_0010_0000_00000010_00000111

abbrev short_report : Message
short_report =
    record {
      kind = 4;
      addressed = 0;
      mni = 0;
      ssi = 0;
      protocol = 0;
      request = 0;
      short = 0;
      required = 0;
      storage = 0;
      status = 2;
      reference = 5;
      validity = 0;
      forward = 0;
      address = 0;
    }

-- With its FCS, over 21 bits in a DM-SDS DATA and over 24 in a DM-SDS ACK.
abbrev short_bits : ℕ
short_bits = 0b0_0100_011111_10_00000101_00011000011111101001010010100101

abbrev short_in_ack : ℕ
short_in_ack = 0b0001_0100_011111_10_00000101_10100100100111001010111001110101

-- The first with another reference under the same FCS.
abbrev damaged_bits : ℕ
damaged_bits = 0b0_0100_011111_10_00000100_00011000011111101001010010100101

-- A refusal: the number, and nine zeros.
abbrev refused : ℕ → List ℕ
refused fault = fault ∷ replicate 9 0

abbrev pub examples : List Example
examples =
    (fcs (bits_of (0x31 ∷ 0x32 ∷ 0x33 ∷ 0x34 ∷ 0x35 ∷ 0x36 ∷ 0x37 ∷ 0x38 ∷ 0x39 ∷ [])) gives 0xfc891918 ∷ []) ∷
    (fcs [] gives 0xffffffff ∷ []) ∷
    (fcs (false ∷ []) gives 0xfb3ee248 ∷ []) ∷
    (fcs (true ∷ []) gives 0xffffffff ∷ []) ∷
    (fcs (replicate 24 false) gives 0xb79b82ff ∷ []) ∷
    (fcs (replicate 32 false) gives 0x38fb2284 ∷ []) ∷
    (fcs (replicate 33 false) gives 0x753758be ∷ []) ∷
    (built 23 0 transfer (bits_n 8 0xa5) gives 48 ∷ transfer_bits ∷ []) ∷
    (read 23 0 48 transfer_bits gives 0 ∷ 1 ∷ 0 ∷ 130 ∷ 0 ∷ 0 ∷ 7 ∷ 0 ∷ 40 ∷ 8 ∷ []) ∷
    (built 24 0 report [] gives 83 ∷ report_bits ∷ []) ∷
    (read 24 0 83 report_bits gives 0 ∷ 2 ∷ 0 ∷ 130 ∷ 1 ∷ 2 ∷ 7 ∷ 0x1234 ∷ 83 ∷ 0 ∷ []) ∷
    (built 22 0 ack [] gives 100 ∷ ack_bits ∷ []) ∷
    (read 22 0 100 ack_bits gives 0 ∷ 3 ∷ 5001 ∷ 130 ∷ 0 ∷ 2 ∷ 7 ∷ 0 ∷ 0 ∷ 0 ∷ []) ∷
    (built 23 1 short_report [] gives 53 ∷ short_bits ∷ []) ∷
    (read 23 1 53 short_bits gives 0 ∷ 4 ∷ 0 ∷ 0 ∷ 0 ∷ 2 ∷ 5 ∷ 0 ∷ 0 ∷ 0 ∷ []) ∷
    (built 24 1 short_report [] gives 56 ∷ short_in_ack ∷ []) ∷
    (read 24 1 56 short_in_ack gives 0 ∷ 4 ∷ 0 ∷ 0 ∷ 0 ∷ 2 ∷ 5 ∷ 0 ∷ 0 ∷ 0 ∷ []) ∷
    -- Too short to tell; shorter than its elements; an FCS that is wrong.
    (read 23 0 27 0b0_0011_00000100000_10000010_000 gives refused 21) ∷
    (read 23 0 28 0b0_0011_00000100000_10000010_0000 gives refused 22) ∷
    (read 23 1 53 damaged_bits gives refused 21) ∷
    []

pub examples_hold : AllHold examples
unfolding bit num bits_n bits_of test_bit xor mixed times lead step remainder generator started remainder_of fcs_of
    addressed_in kind_in_data kind_in storage_in forward_in read_bits frame_bits built_bits
examples_hold = hold examples tt
