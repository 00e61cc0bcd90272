-- Request 03: copies with another message between them. Demand 3 says exactly where a copy is heard, over `Copy` of
-- crates/history/specs/History.antt; here is what that comes to. `Repeated`, `Original` and the seven headers are in
-- crates/history/specs/Once.antt and Seven.antt.
use Rattle.std.specs.Prelude.{◌≡◌, ◌↔◌, true, ℕ, ◌+◌}
use Rattle.history.specs.Line.{◌▸◌, ◌⧺◌}
use Rattle.history.specs.Slots.{Header, unfragmented}
use Rattle.history.specs.History.{History, Unbroken, frames, Earlier, IsEarlier}
use Rattle.history.specs.Once.{Repeated, Original}
use Rattle.history.specs.Seven.{SevenAreNeeded}
use Rattle.history.specs.declared.Place.{Place}
use Rattle.receiver.specs.Reached.{Listed}
use Rattle.demands.specs.Calls.{HearCall, Made, history, current, answer, Taken}
use Rattle.demands.specs.Demand3.{HandsNothing}

-- The report brings an unfragmented header h for this unit, with countdown f.
pub record HeaderHere (c : HearCall) (h : Header) (f : ℕ) : Type 0 where
  pub holds : (current c).heard ≡ unfragmented h f
  pub for_us : h.for_us ≡ true

-- It fits an earlier well-formed header for this unit, fragmented or not, with no break since: the same SCH/H but for
-- the countdown, and that one's countdown is the new one plus the frames gone by.
pub record Fits (c : HearCall) (h : Header) (f : ℕ) (e : Earlier) : Type 0 where
  pub is_earlier : IsEarlier (history c) e
  pub unbroken : Unbroken (history c) (current c).place
  pub same : e.header.raw ≡ h.raw
  pub counted : e.countdown ≡ f + frames (e.since ▸ current c)

pub record Req03 : Type 0 where
  -- It is a copy, outcome 5, exactly if it fits any of them. `Copy` takes only those that are not fragmented: no other
  -- fits, since the fragmentation flag is among the bits that are compared.
  pub any : (c : HearCall) → Taken c → {h : Header} {f : ℕ} → HeaderHere c h f
      → ((answer c).outcome ≡ 5) ↔ ((e : Earlier) × Fits c h f e)
  -- A message whose header was heard is not handed over again by a repeat, whatever came between, as long as no break
  -- did.
  pub repeated : (c : HearCall) → Taken c → (before since : History) (p : Place) (h : Header) (f : ℕ)
      → history c ≡ (before ▸ record { place = p; heard = unfragmented h f }) ⧺ since → h.for_us ≡ true
      → Repeated h f p since (current c) → ((answer c).outcome ≡ 5) × HandsNothing c
  -- And none is lost: of a copy, an earlier report handed over the original, with no break since.
  pub original : (c : HearCall) → Taken c → (answer c).outcome ≡ 5 → {h : Header} {f : ℕ} → HeaderHere c h f
      → Original (history c) (current c) h f
  -- A receiver keeps seven headers at most, which stand first, and zeros after them; six would not do.
  pub seven : (c : HearCall) → Made c → Listed c.reply.receiver.near
  pub needed : SevenAreNeeded
