-- The numbers of a record's body, the lowest byte first, and the fields of a build's: system code, A/B usage, slot,
-- frame and countdown; destination type and destination, source type and source; MNI; message type, width and elements;
-- n; the output's length; the message.
use Rattle.std.specs.Prelude.{List, ℕ, get_or, drop}
use Rattle.records.specs.Numbers.{two_at, four_at, eight_at}
use Rattle.blocks.specs.declared.sync.Sync.{Sync}
use Rattle.blocks.specs.declared.header.Fields.{Fields}

abbrev pub sync_in : List ℕ → Sync
sync_in body =
    record { system = get_or body 0 0; usage = get_or body 1 0; slot = get_or body 2 0; frame = get_or body 3 0 }

unfoldable pub fields_in : List ℕ → Fields
fields_in body =
    record {
      destination = record { kind = get_or body 5 0; ssi = four_at body 6 };
      source = record { kind = get_or body 10 0; ssi = four_at body 11 };
      mni = four_at body 15;
      message = get_or body 19 0;
      width = get_or body 20 0;
      elements = eight_at body 21;
    }

abbrev pub countdown_in_record : List ℕ → ℕ
countdown_in_record body = get_or body 4 0

abbrev pub n_in : List ℕ → ℕ
n_in body = four_at body 29

abbrev pub lent_in : List ℕ → ℕ
lent_in body = two_at body 33

abbrev pub message_in : List ℕ → List ℕ
message_in body = drop 35 body
