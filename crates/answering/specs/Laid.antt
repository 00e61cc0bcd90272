-- What the slots of a response have to be (request 06), whatever way they are worked out.
use Rattle.std.specs.Prelude.{◌≡◌, ◌⊎◌, true, false, cond, ◌&&◌, List, [], ◌∷◌, ◌++◌, ℕ, zero, suc, ◌+◌, ◌-◌, ◌≤◌}
use Rattle.std.specs.Prelude.{◌<◌, eqb, ltb, get_or}
use Rattle.blocks.specs.Slots.{next_frame, frame_number, frames_to, due_frame}
use Rattle.answering.specs.Calendar.{yes, was_fragmented, last_frame, first_frame, has_end, no_slot}
use Rattle.answering.specs.declared.Response.{Response}
use Rattle.answering.specs.declared.Slot.{Slot}

-- Each member of the list has the property.
pub data All {A : Type 0} (P : A → Type 0) : List A → Type 0 where
  none : All P []
  more : {x : A} {l : List A} → P x → All P l → All P (x ∷ l)

-- ---- The answered message's own slots.

-- A slot, counted from X as a response's is.
pub record Counted : Type 0 where
  pub from : ℕ
  pub slot : ℕ

abbrev pub counted : ℕ → ℕ → Counted
counted k slot = record { from = k; slot = slot }

-- Its header goes out in slots 1 and 3 of frame X and of the f frames after it.
abbrev pub repeats : ℕ → List Counted
repeats zero = counted 0 1 ∷ counted 0 3 ∷ []
repeats (suc f) = repeats f ++ (counted (suc f) 1 ∷ counted (suc f) 3 ∷ [])

-- Its first n blocks go in slot 1 of the layout's frames.
abbrev pub blocks : ℕ → ℕ → ℕ → List Counted
blocks x f zero = []
blocks x f (suc i) = blocks x f i ++ (counted (frames_to x f i) 1 ∷ [])

-- All of them: blocks only where it was fragmented, as many as the slot count says.
abbrev pub own_slots : Response → List Counted
own_slots r =
    repeats r.countdown
    ++ blocks r.frame r.countdown (cond (was_fragmented r.answered) r.count 0)

-- ---- The response's.

-- The slot is that one.
abbrev pub Same : Slot → Counted → Type 0
Same s o = (s.from ≡ o.from) × (s.slot ≡ o.slot)

-- The one is earlier than the other.
abbrev pub Before : Slot → Slot → Type 0
Before s t = (s.from < t.from) ⊎ ((s.from ≡ t.from) × (s.slot < t.slot))

-- Each is earlier than all that follow it, so that no two are the same.
abbrev pub InOrder : List Slot → Type 0
InOrder [] = Unit {0}
InOrder (s ∷ l) = All (Before s) l × InOrder l

-- The response's frames after frame k. In each of them the header is in slot 3.
abbrev pub to_come : ℕ → List Slot → ℕ
to_come k [] = 0
to_come k (s ∷ l) =
    cond (eqb s.what 1 && (eqb s.slot 3 && ltb k s.from)) (suc (to_come k l)) (to_come k l)

-- The first slot: a header, in slot 1 if that is used, otherwise in slot 3, of the frame that 8.5.6.2 names.
pub record First (r : Response) (s : Slot) : Type 0 where
  pub what : s.what ≡ 1
  pub slot : s.slot ≡ cond (yes r.slot1) 1 3
  pub from : s.from ≡ first_frame r
  -- e) Frame (X + F) mod 18 + 1.
  pub plain : r.answered ≡ 0 → s.frame ≡ next_frame (r.frame + r.countdown)
  -- f) The frame following the one that contained the DMAC-END, or where that was sent by the slot count.
  pub fragmented : was_fragmented r.answered ≡ true
      → s.frame ≡ next_frame (due_frame r.frame r.countdown (r.count - 1))
  -- g) Frame (X + F) mod 18 + 1, or frame (X + F + 1) mod 18 + 1.
  pub connect : r.answered ≡ 3 → s.frame ≡ next_frame (r.frame + r.countdown + cond (yes r.later) 1 0)

-- The last slot is the DMAC-END: slot 1 of the first frame of 1 to 17 after that of the last header.
pub record EndsLast (r : Response) (l : List Slot) : Type 0 where
  pub before : List Slot
  pub end : Slot
  pub split : l ≡ before ++ (end ∷ [])
  pub headers : All (λ s. s.what ≡ 1) before
  pub what : end.what ≡ 2
  pub slot : end.slot ≡ 1
  pub countdown : end.countdown ≡ 0
  pub later : All (λ s. s.from < end.from) before
  pub in_17 : (1 ≤ end.frame) × (end.frame ≤ 17)
  pub soon : (k : ℕ) → All (λ s. s.from < k) before → k < end.from → frame_number r.frame k ≡ 18

pub record Laid (r : Response) (l : List Slot) : Type 0 where
  -- No slot is one in which a header or a block of the answered message goes out.
  pub clear : All (λ s. All (λ o. Same s o → ⊥) (own_slots r)) l
  -- They are in order, no two the same, each slot 1 or slot 3, and the frames have their numbers.
  pub in_order : InOrder l
  pub slots : All (λ s. (s.slot ≡ 1) ⊎ (s.slot ≡ 3)) l
  pub numbers : All (λ s. s.frame ≡ frame_number r.frame s.from) l
  -- The header goes out in as many frames as were asked for, all after the answered message; each countdown is the
  -- number of those still to come.
  pub frames : to_come (last_frame r) l ≡ r.frames
  pub countdowns : All (λ s. s.what ≡ 1 → s.countdown ≡ to_come s.from l) l
  pub first : First r (get_or l 0 no_slot)
  -- A fragmented response ends with its DMAC-END, another has none; the answer to a lost message is in one frame.
  pub fragmented : has_end r ≡ true → EndsLast r l
  pub unfragmented : has_end r ≡ false → All (λ s. s.what ≡ 1) l
  pub lost : r.answered ≡ 2 → All (λ s. (s.from ≡ first_frame r) × (s.what ≡ 1)) l
