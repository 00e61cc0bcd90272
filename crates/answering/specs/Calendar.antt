-- The calendar of a response (8.5.6.2 e to g): the slots in which it goes out, counted in frames from X, the frame in
-- which a header of the answered message was heard.
use Rattle.std.specs.Prelude.{◌≡◌, Bool, true, cond, ◌&&◌, ◌||◌, not, List, [], ◌∷◌, ◌++◌, ℕ, zero, suc, ◌+◌, ◌-◌}
use Rattle.std.specs.Prelude.{◌≤◌, ◌<◌, eqb, leb, length, drop, replicate, Result, MatchResult}
use Rattle.blocks.specs.Faults.{unless, first_of}
use Rattle.blocks.specs.Slots.{frame_number, passing, frames_to}
use Rattle.blocks.specs.declared.fault.Fault.{Fault}
use Rattle.blocks.specs.declared.fault.Fault.TheVariants.{Range}
use Rattle.answering.specs.declared.Answered.{Answered}
use Rattle.answering.specs.declared.Answered.TheVariants.{Plain, Joined, Lost, Connect}
use Rattle.answering.specs.declared.Response.{Response}
use Rattle.answering.specs.declared.Slot.{Slot}
use Rattle.answering.specs.declared.Calendar.{Calendar}

-- ---- What is answered: 0, a plain message (e); 1, a joined one (f); 2, a lost DM-SDS DATA (f); 3, a plain DM-CONNECT,
-- with a DM-CONNECT ACK (g). Of a flag, 0 is no and any other number yes.

-- These numbers; any other is refused with 13.
abbrev pub answer_number : Answered → ℕ
answer_number Plain = 0
answer_number Joined = 1
answer_number Lost = 2
answer_number Connect = 3

abbrev pub Answers : ℕ → Result Answered Fault → Type 0
Answers n r = MatchResult r (λ a. answer_number a ≡ n) (λ f. (f ≡ Range) × (3 < n))

abbrev pub yes : ℕ → Bool
yes flag = leb 1 flag

-- 1 and 2 were fragmented: blocks followed the header.
abbrev pub was_fragmented : ℕ → Bool
was_fragmented answered = eqb answered 1 || eqb answered 2

-- Of such a message the slot count is at least 1.
abbrev pub least_of : ℕ → ℕ
least_of answered = cond (was_fragmented answered) 1 0

-- The response's header may go out in so many frames: DN210 (A.4); after a lost message one (f); DM-CONNECT ACK four
-- (A.5).
abbrev pub limit_of : ℕ → ℕ → ℕ
limit_of answered dn210 = cond (eqb answered 2) 1 (cond (eqb answered 3) 4 dn210)

-- ---- Where it starts.

-- The answered message's last frame: that of its header's last repeat, which is F frames after X (e, g); where it was
-- fragmented that of its DMAC-END, its last block, where the slot count puts it (f).
abbrev pub last_frame : Response → ℕ
last_frame r =
    cond (was_fragmented r.answered) (frames_to r.frame r.countdown (r.count - 1)) r.countdown

-- The response's first frame is the one after that. DM-CONNECT ACK may start in the one after it (g).
abbrev pub first_frame : Response → ℕ
first_frame r = suc (last_frame r) + cond (eqb r.answered 3 && yes r.later) 1 0

-- ---- Its slots.

-- Its header in a slot of the frame that comes k frames after frame x, with countdown n; its DMAC-END, which goes in
-- slot 1 and has no countdown.
abbrev pub header_at : ℕ → ℕ → ℕ → ℕ → Slot
header_at x k slot n = record { from = k; frame = frame_number x k; slot = slot; what = 1; countdown = n }

abbrev pub end_at : ℕ → ℕ → Slot
end_at x k = record { from = k; frame = frame_number x k; slot = 1; what = 2; countdown = 0 }

-- The header in slots 1 and 3 of m frames from frame k on, the countdown falling to 0.
abbrev pub headers : ℕ → ℕ → ℕ → List Slot
headers x k zero = []
headers x k (suc m) = header_at x k 1 m ∷ header_at x k 3 m ∷ headers x (suc k) m

-- The first of these, slot 1 of the first frame, is passed over if it is not used.
abbrev pub passed_over : ℕ → ℕ
passed_over slot1 = cond (yes slot1) 0 1

-- The response has a DMAC-END if it is fragmented; but what answers a lost message goes out in one frame only (f).
abbrev pub has_end : Response → Bool
has_end r = not (eqb r.answered 2) && yes r.fragmented

-- It goes in slot 1 of the next frame in the ranges 1 to 17; k is the frame after the last header's.
abbrev pub ends : Bool → ℕ → ℕ → List Slot
ends told x k = cond told (end_at x (passing x k) ∷ []) []

-- From frame k on, in m frames, with or without the first slot and a DMAC-END.
abbrev pub slots_from : ℕ → ℕ → ℕ → ℕ → Bool → List Slot
slots_from x k m over told = drop over (headers x k m) ++ ends told x (k + m)

abbrev pub slots : Response → List Slot
slots r = slots_from r.frame (first_frame r) r.frames (passed_over r.slot1) (has_end r)

-- ---- The call.

-- It is refused in this order: 15, 13, 10. `most` is the limit for the number of frames, and `least` for the slot
-- count. Where DN210 is the limit it is 1 to 4: of more no number of frames is taken, and of 0 none fits.
abbrev pub rules_of : (frame countdown answered count frames most least : ℕ) → List ℕ
rules_of frame countdown answered count frames most least =
    unless (leb 1 frame) 15 ∷
    unless (leb frame 18) 15 ∷
    unless (leb countdown 3) 13 ∷
    unless (leb answered 3) 13 ∷
    unless (leb count 15) 13 ∷
    unless (leb most 4) 13 ∷
    unless (leb 1 frames) 13 ∷
    unless (leb frames most) 13 ∷
    unless (leb least count) 10 ∷
    []

abbrev pub response_rules : Response → List ℕ
response_rules r =
    rules_of r.frame r.countdown r.answered r.count r.frames
    (limit_of r.answered r.dn210) (least_of r.answered)

-- Numbers that give none of these.
pub record Fits (r : Response) : Type 0 where
  pub frame : (1 ≤ r.frame) × (r.frame ≤ 18)
  pub countdown : r.countdown ≤ 3
  pub answered : r.answered ≤ 3
  pub count : r.count ≤ 15
  pub dn210 : r.answered ≤ 1 → (1 ≤ r.dn210) × (r.dn210 ≤ 4)
  pub frames : (1 ≤ r.frames) × (r.frames ≤ limit_of r.answered r.dn210)
  pub blocks : was_fragmented r.answered ≡ true → 1 ≤ r.count

-- Refused, all but the number is 0. Otherwise these slots, in order, and zeros after them.
abbrev pub no_slot : Slot
no_slot = record { from = 0; frame = 0; slot = 0; what = 0; countdown = 0 }

abbrev pub with_fault : ℕ → Calendar
with_fault n = record { fault = n; count = 0; slots = replicate 9 no_slot }

abbrev pub with_slots : List Slot → Calendar
with_slots l = record { fault = 0; count = length l; slots = l ++ replicate (9 - length l) no_slot }

abbrev pub calendar_at : ℕ → List Slot → Calendar
calendar_at zero l = with_slots l
calendar_at (suc n) l = with_fault (suc n)

unfoldable pub calendar_of : Response → Calendar
calendar_of r = calendar_at (first_of (response_rules r)) (slots r)
