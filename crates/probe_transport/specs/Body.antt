-- The numbers of a record's body, the lowest byte first.
use Rattle.std.specs.Prelude.{List, ℕ, get_or, drop}
use Rattle.records.specs.Numbers.{two_at, four_at, eight_at}
use Rattle.blocks.specs.declared.header.Fields.{Fields}
use Rattle.transport.specs.declared.Message.{Message}
use Rattle.bookings.specs.Book.{Lent, lent}

-- ---- Of a message that is read: message type and elements of its header, n, the message.

-- The header's fields, with this source; those that the body does not have are 0.
unfoldable pub fields_in : ℕ → List ℕ → Fields
fields_in source body =
    record {
      destination = record { kind = 0; ssi = 0 };
      source = record { kind = 0; ssi = source };
      mni = 0;
      message = get_or body 0 0;
      width = 0;
      elements = eight_at body 1;
    }

abbrev pub n_in : List ℕ → ℕ
n_in body = four_at body 9

abbrev pub sdu_in : List ℕ → List ℕ
sdu_in body = drop 13 body

-- What is lent to `book`.
abbrev pub lent_in : ℕ → List ℕ → Lent
lent_in source body = lent (fields_in source body) (n_in body) (sdu_in body)

-- ---- Of a message that is built: message type of its header, FCS flag, addressed, the caller's MNI and SSI, kind,
-- protocol, request, short form, ack required, storage, status, reference, validity, forward type, forward address; n;
-- the output's length; the user data.

abbrev pub carrier_in : List ℕ → ℕ
carrier_in body = get_or body 0 0

abbrev pub flag_in : List ℕ → ℕ
flag_in body = get_or body 1 0

unfoldable pub message_in : List ℕ → Message
message_in body =
    record {
      kind = get_or body 11 0;
      addressed = get_or body 2 0;
      mni = four_at body 3;
      ssi = four_at body 7;
      protocol = get_or body 12 0;
      request = get_or body 13 0;
      short = get_or body 14 0;
      required = get_or body 15 0;
      storage = get_or body 16 0;
      status = get_or body 17 0;
      reference = get_or body 18 0;
      validity = get_or body 19 0;
      forward = get_or body 20 0;
      address = eight_at body 21;
    }

abbrev pub user_bits_in : List ℕ → ℕ
user_bits_in body = four_at body 29

abbrev pub output_in : List ℕ → ℕ
output_in body = two_at body 33

abbrev pub user_in : List ℕ → List ℕ
user_in body = drop 35 body
