-- Request 02: a hire lost on the way is heard of. Demand 3 says exactly where a loss is told, and which three numbers;
-- here is what becomes of an assembly over all reports, and what the calls say of it.
-- `Fate`, `Still` and `EndsBy` are in crates/history/specs/Fate.antt.
use Rattle.std.specs.Prelude.{◌≡◌, ◌⊎◌, Bool, List, ◌++◌}
use Rattle.history.specs.Line.{◌▸◌, ◌⧺◌}
use Rattle.history.specs.Slots.{no_loss, Report}
use Rattle.history.specs.History.{History, join, Run, IsAcknowledged, loss}
use Rattle.history.specs.Fate.{Way, still_open, handed_over, dropped, opened_anew, EndsBy, Still, DroppedOrHandedOver}
use Rattle.demands.specs.Calls.{HearCall, Made, history, current, answer, Taken}
use Rattle.demands.specs.Demand3.{HandsOver}

-- Of a run that is dropped its three numbers are told where it is of a DM-SDS DATA or a DM-SDS ACK, and else zeros.
pub record TellsLoss (c : HearCall) (u : Run) : Type 0 where
  pub of_these : IsAcknowledged u.header.fields.message → (answer c).lost ≡ loss u
  pub of_others : (IsAcknowledged u.header.fields.message → ⊥) → (answer c).lost ≡ no_loss

-- What the answer says of an assembly that ends here, as the run u, in one of the ways; while it is still open, and
-- where it is not dropped, nothing of a loss.
abbrev pub Says : HearCall → Run → Way → Type 0
Says c u still_open = ((answer c).dropped ≡ 0) × ((answer c).lost ≡ no_loss)
Says c u handed_over =
    ((answer c).outcome ≡ 2) × ((answer c).dropped ≡ 0) × ((answer c).lost ≡ no_loss)
    × ((last : List Bool) × HandsOver c u.header.fields (join u.header.bits u.blocks ++ last))
Says c u dropped = ((answer c).dropped ≡ 1) × TellsLoss c u × ((answer c).outcome ≡ 2 → ⊥)
Says c u opened_anew = ((answer c).outcome ≡ 3) × ((answer c).dropped ≡ 0) × ((answer c).lost ≡ no_loss)

pub record Req02 : Type 0 where
  -- Over any reports an assembly that was opened comes to one of the four, never to two, once.
  pub fates : DroppedOrHandedOver
  -- The answer at the report where it ends says how it ended.
  pub ended : (c : HearCall) → Taken c → {u : Run} {w : Way} → EndsBy (history c) u (current c) w → Says c u w
  -- Until then nothing is told: at a report after which it is still open.
  pub not_ended : (c : HearCall) → Taken c → (before : History) (o : Report) (since : History) (u : Run)
      → history c ≡ (before ▸ o) ⧺ since → Still before o (since ▸ current c) u → Says c u still_open
  -- The message type shows whether a loss is told: it is 23 or 24, or all three numbers are 0, refused reports too. And
  -- what is told lost was dropped.
  pub types : (c : HearCall) → Made c → ((answer c).lost ≡ no_loss) ⊎ IsAcknowledged (answer c).lost.message
  pub dropped : (c : HearCall) → Taken c → IsAcknowledged (answer c).lost.message → (answer c).dropped ≡ 1
