-- Reading a block from a bit position on.
use Rattle.std.specs.Prelude.{◌≡◌, cond, List, ℕ, ◌+◌, ◌-◌, ◌*◌, ◌^◌, min, ltb, length, Result, Ok, Err, ⊤}
use Rattle.bits.specs.Bits.{bits_of, field}
use Rattle.reader.specs.declared.Reader.{Reader}
use Rattle.reader.specs.declared.Step.{Step}
use Rattle.reader.specs.declared.Made.{Made}
use Rattle.reader.specs.declared.Refusal.{Refusal}
use Rattle.reader.specs.declared.Refusal.TheVariants.{Short, Wide}

-- The fault numbers of refusals.
abbrev pub number_of : Refusal → ℕ
number_of Short = 1
number_of Wide = 13

-- The bits left from bit `at` on: none past the end. No more than 2 ^ 32 bits of a block count.
unfoldable pub left_of : List ℕ → ℕ → ℕ
left_of s at = min (8 * length s) (2 ^ 32) - at

-- A refusal: its fault number, no number, and the position as it was.
abbrev pub refused_at : ℕ → ℕ → Step
refused_at fault at = record { fault = fault; value = 0; at = at }

-- A step that is made: a number, and the position after it.
abbrev pub made_to : ℕ → ℕ → Step
made_to value at = record { fault = 0; value = value; at = at }

-- A step from bit `at` that was made, or refused.
abbrev pub step_of : ℕ → Result Made Refusal → Step
step_of at (Ok to) = made_to to.value to.at
step_of at (Err refusal) = refused_at (number_of refusal) at

-- A step past n bits, with this number: refused with 1 where fewer are left.
abbrev pub past : List ℕ → ℕ → ℕ → ℕ → Step
past s at n value = cond (ltb (left_of s at) n) (refused_at 1 at) (made_to value (at + n))

-- Skipping n bits: a step with no number.
unfoldable pub skipped_at : List ℕ → ℕ → ℕ → Step
skipped_at s at n = past s at n 0

-- Taking w bits: a step with their number, refused with 13 before all else where w is above 56.
unfoldable pub taken_at : List ℕ → ℕ → ℕ → Step
taken_at s at w = cond (ltb 56 w) (refused_at 13 at) (past s at w (field at w (bits_of s)))

-- Such a step of a reader, from where it stands.
abbrev pub step_by : (List ℕ → ℕ → ℕ → Step) → Reader → ℕ → Step
step_by step r n = step r.block.now r.at n

-- What the reader answers: the step without its position, which the reader keeps.
pub record Taken : Type 0 where
  pub fault : ℕ
  pub value : ℕ

abbrev pub answer_of : Step → Taken
answer_of t = record { fault = t.fault; value = t.value }

-- The same of a number that was taken, and of a skip.
abbrev pub number_answer : Result ℕ Refusal → Taken
number_answer (Ok value) = record { fault = 0; value = value }
number_answer (Err refusal) = record { fault = number_of refusal; value = 0 }

abbrev pub skip_answer : Result ⊤ Refusal → Taken
skip_answer (Ok none) = record { fault = 0; value = 0 }
skip_answer (Err refusal) = record { fault = number_of refusal; value = 0 }

-- Where it stands then, over the same block.
abbrev pub moved_to : Step → Reader → Reader
moved_to t r = record { block = r.block; at = t.at }

-- A reader that such a step moves, made or refused, whatever the step is: its answer, and where it stands then.
pub record By (r : Result Made Refusal) (old : Reader) (said : Result ℕ Refusal) (new : Reader) : Type 0 where
  pub answer : number_answer said ≡ answer_of (step_of old.at r)
  pub moved : new ≡ moved_to (step_of old.at r) old
