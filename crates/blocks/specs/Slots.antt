-- Laying a message out: the due slots (8.5.6.1, 8.5.6.2 f), and how a message is cut (8.5.4.1).
use Rattle.std.specs.Prelude.{Bool, cond, List, [], ◌∷◌, ℕ, zero, suc, ◌+◌, ◌-◌, ◌/◌, ◌%◌, eqb, leb}
use Rattle.blocks.specs.Faults.{unless, first_of}
use Rattle.blocks.specs.declared.slots.Due.{Due}

-- Frame 18 is followed by frame 1.
abbrev pub next_frame : ℕ → ℕ
next_frame x = x % 18 + 1

-- The number of the frame that comes k frames after frame x.
abbrev pub frame_number : ℕ → ℕ → ℕ
frame_number x k = next_frame (x + k - 1)

-- k frames after frame x, or one more where that is frame 18.
abbrev pub passing : ℕ → ℕ → ℕ
passing x k = cond (eqb (frame_number x k) 18) (suc k) k

-- The frames from X, in which a header stands with countdown f, to that of block i, from 0: successive frames of 1 to
-- 17 after that of the last repeat, which is f frames after X.
abbrev pub frames_to : ℕ → ℕ → ℕ → ℕ
frames_to x f zero = passing x (suc f)
frames_to x f (suc i) = passing x (suc (frames_to x f i))

-- The number of that frame.
abbrev pub due_frame : ℕ → ℕ → ℕ → ℕ
due_frame x f i = frame_number x (frames_to x f i)

-- Frames 1 to 17 counted on from frame 1, those before it: what the code works both out of.
abbrev pub since1 : ℕ → ℕ → ℕ → ℕ
since1 x f i = (x + f) % 18 + i

-- The layout call is refused in this order.
abbrev pub due_checks : ℕ → ℕ → ℕ → List ℕ
due_checks x f i =
    unless (leb 1 x) 7 ∷
    unless (leb x 18) 7 ∷
    unless (leb f 3) 13 ∷
    unless (leb i 14) 14 ∷
    []

abbrev pub due_at : ℕ → ℕ → Due
due_at zero frame = record { fault = 0; frame = frame }
due_at (suc n) frame = record { fault = suc n; frame = 0 }

unfoldable pub due_of : ℕ → ℕ → ℕ → Due
due_of x f i = due_at (first_of (due_checks x f i)) (due_frame x f i)

-- A message of n bits after a header of h bits, without the slot count, goes into the header if it fits there.
abbrev pub fits_header : ℕ → ℕ → Bool
fits_header h n = leb (n + h) 124

-- Otherwise the header takes the first 120 - h bits, and the others go 264 to a block, so many blocks.
abbrev pub in_header : ℕ → ℕ → ℕ
in_header h n = cond (fits_header h n) n (120 - h)

abbrev pub block_count : ℕ → ℕ → ℕ
block_count h n = (n - in_header h n + 263) / 264
