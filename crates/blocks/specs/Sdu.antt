-- The DM-SDU in a block's room (8.5.5).
use Rattle.std.specs.Prelude.{Bool, true, false, cond, List, [], ℕ, eqb, ltb, length}
use Rattle.std.proofs.Math.Option.{Option, none, some}
use Rattle.bits.specs.Fill.{strip}

-- Told of fill, the reader deletes it.
abbrev pub unfilled : Bool → List Bool → Option (List Bool)
unfilled true room = strip room
unfilled false room = some room

-- The message bits in a room, by the fill indication; none where fill is told of and the room holds no 1.
abbrev pub sdu_of : ℕ → List Bool → Option (List Bool)
sdu_of fill room = unfilled (eqb fill 1) room

abbrev pub is_there : Option (List Bool) → Bool
is_there none = false
is_there (some m) = true

-- The fill indication of a message in a room of so many bits: 1 where bits are left over.
abbrev pub fill_told : ℕ → List Bool → ℕ
fill_told room m = cond (ltb (length m) room) 1 0

-- The bits, where there are any.
abbrev pub bits_of_message : Option (List Bool) → List Bool
bits_of_message none = []
bits_of_message (some m) = m
