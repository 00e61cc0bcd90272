-- Six places are not enough for the earlier headers: seven headers for this unit, one in each slot from slot 1 of frame
-- 1 on, of which each can still come again in slot 3 of frame 4.
use Rattle.std.specs.Prelude.{ℕ, ◌<◌, ◌≡◌, true, []}
use Rattle.history.specs.Line.{start, ◌▸◌}
use Rattle.history.specs.Slots.{no_fields, Header, unfragmented, Report}
use Rattle.history.specs.History.{History}
use Rattle.history.specs.Step.{copy, single, outcome_at}

-- Header i is not header j.
abbrev pub header : ℕ → Header
header i = record { raw = record { high = i; low = 0 }; for_us = true; fields = no_fields; bits = [] }

abbrev pub heard_in : ℕ → ℕ → ℕ → ℕ → Report
heard_in frame slot i f = record { place = record { frame = frame; slot = slot }; heard = unfragmented (header i) f }

abbrev pub seven : History
seven =
    start
    ▸ heard_in 1 1 0 3
    ▸ heard_in 1 3 1 3
    ▸ heard_in 2 1 2 2
    ▸ heard_in 2 3 3 2
    ▸ heard_in 3 1 4 1
    ▸ heard_in 3 3 5 1
    ▸ heard_in 4 1 6 0

-- Each of them again is a copy there, and another is none. So each has to be kept.
pub record SevenAreNeeded : Type 0 where
  pub copies : (i : ℕ) → i < 7 → outcome_at seven (heard_in 4 3 i 0) ≡ copy
  pub other : outcome_at seven (heard_in 4 3 7 0) ≡ single no_fields []
