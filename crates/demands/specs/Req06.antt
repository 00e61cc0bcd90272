-- Request 06: answering in the right frame. What `calendar_of` answers of any response. The slots of a response are
-- defined in crates/answering/specs/Calendar.antt, what they have to be (`Laid`) in Laid.antt there. That a response
-- which is sent so is handed over: crates/ends/specs/Answered.antt.
use Rattle.std.specs.Prelude.{◌≡◌, ◌↔◌, cond, List, map, ℕ, ◌+◌, ◌-◌, ◌*◌, ◌≤◌, eqb, length, take, drop, replicate}
use Rattle.blocks.specs.Slots.{frame_number}
use Rattle.history.specs.Lasts.{slots_on}
use Rattle.history.specs.declared.Place.{Place}
use Rattle.answering.specs.Calendar.{slots, response_rules, Fits, no_slot, with_fault, calendar_of}
use Rattle.answering.specs.Laid.{All, Laid}
use Rattle.answering.specs.declared.Response.{Response}
use Rattle.answering.specs.declared.Slot.{Slot}
use Rattle.answering.specs.declared.Calendar.{Calendar}
use Rattle.demands.specs.Demand1.{Settles}

-- The slots that a calendar has.
abbrev pub sent : Calendar → List Slot
sent c = take c.count c.slots

-- A slot as reports name it; and the slots from slot 1 of frame X to it, two for each frame.
abbrev pub place_of : Slot → Place
place_of s = record { frame = s.frame; slot = s.slot }

abbrev pub slots_gone : Slot → ℕ
slots_gone s = 2 * s.from + cond (eqb s.slot 1) 0 1

-- A response that is not refused. Of the nine places the first `count` have its slots, and the others zeros.
pub record Given (r : Response) (c : Calendar) : Type 0 where
  pub fits : Fits r
  pub some : 1 ≤ c.count
  pub nine : length c.slots ≡ 9
  pub its_slots : sent c ≡ slots r
  pub others : drop c.count c.slots ≡ replicate (9 - c.count) no_slot
  -- None is a slot of the answered message; they are in order, no two the same; the countdowns, the first slot, the
  -- DMAC-END are right.
  pub laid : Laid r (sent c)
  -- Frames and slots are those that are reached by counting slot by slot from slot 1 of frame X.
  pub real : All (λ s. place_of s ≡ slots_on (slots_gone s) (record { frame = r.frame; slot = 1 })) (sent c)

-- What the call answers: refused in the order 15, 13, 10 with all else 0, or the slots.
pub record Plans (r : Response) (c : Calendar) : Type 0 where
  pub settled : Settles (response_rules r) c.fault (λ n. c ≡ with_fault n)
  pub given : c.fault ≡ 0 → Given r c

-- The same response, where the repeat of the header that comes g frames later was heard, with a countdown less by
-- these.
abbrev pub heard_on : ℕ → Response → Response
heard_on g r =
    record {
      frame = frame_number r.frame g;
      countdown = r.countdown - g;
      answered = r.answered;
      count = r.count;
      frames = r.frames;
      dn210 = r.dn210;
      later = r.later;
      slot1 = r.slot1;
      fragmented = r.fragmented;
    }

-- A slot, counted from g frames earlier.
abbrev pub from_earlier : ℕ → Slot → Slot
from_earlier g s =
    record { from = g + s.from; frame = s.frame; slot = s.slot; what = s.what; countdown = s.countdown }

pub record Req06 : Type 0 where
  pub plans : (r : Response) → Plans r (calendar_of r)
  -- Nothing else is refused than what the table says.
  pub taken : (r : Response) → ((calendar_of r).fault ≡ 0) ↔ Fits r
  -- Whichever repeat of the header was heard, the response goes out in the same slots.
  pub any_repeat : (r : Response) → Fits r → (g : ℕ) → g ≤ r.countdown
      → Fits (heard_on g r) × (slots r ≡ map (from_earlier g) (slots (heard_on g r)))
