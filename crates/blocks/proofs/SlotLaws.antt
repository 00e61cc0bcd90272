-- The laws of due slots. Assumes nothing.
use mathlib.Core.Path.{◌≡◌, refl, sym, ap, ◌∙◌}
use mathlib.Core.Bool.{Bool, true, false, cond}
use mathlib.Core.Logic.{◌⊎◌, inl, inr}
use Prim.Native.Nat.{ℕ, zero, suc, ◌+◌, ◌-◌, ◌/◌, ◌%◌, ◌≤◌, ◌<◌}
use native.Mathlib.Omega.{arith}
use lib.Dec.{eqb, leb}
use borrow.Author.Tests.{eqb-true, eqb-false, eq-eqb, ne_eqb, le-leb, lt-leb}
use Rattle.blocks.specs.Slots.{next_frame, frame_number, passing, frames_to, due_frame, since1}

-- ---- frames from X

-- p frames after frame x is k frames after it, or one more where that is frame 18
abbrev pub Passes : ℕ → ℕ → ℕ → Type 0
Passes x k p = ((p ≡ k) × (frame_number x k ≤ 17)) ⊎ ((p ≡ suc k) × (frame_number x k ≡ 18))

passes_when : (t : Bool) (x k : ℕ) → eqb (frame_number x k) 18 ≡ t → Passes x k (cond t (suc k) k)
passes_when true x k e = inr (refl, eqb-true (frame_number x k) 18 e)
passes_when false x k e = let n = eqb-false (frame_number x k) 18 e in inl (refl, omega arith)

pub passes : (x k : ℕ) → Passes x k (passing x k)
passes x k = passes_when (eqb (frame_number x k) 18) x k refl

-- the first block comes in the frame after the last repeat's, or in the one after that where that is 18
pub first_soon : (x f : ℕ) → Passes x (suc f) (frames_to x f 0)
first_soon x f = passes x (suc f)

-- no earlier than that, one of frames 1 to 17, and the next of these
record Passed (x k p : ℕ) : Type 0 where
  soon : k ≤ p
  never_18 : frame_number x p ≤ 17
  number : frame_number x p ≡ (frame_number x k - 1) % 17 + 1

passed_by : (x k p : ℕ) → 1 ≤ k → Passes x k p → Passed x k p
passed_by x k p l (inl (e, h)) = rw e (record { soon = omega arith; never_18 = h; number = omega arith })
passed_by x k p l (inr (e, h)) = rw e (record { soon = omega arith; never_18 = omega arith; number = omega arith })

passed : (x k : ℕ) → Passed x (suc k) (passing x (suc k))
passed x k = passed_by x (suc k) (passing x (suc k)) (omega arith) (passes x (suc k))

-- the blocks come after the last header frame, each later than those before it
later : (x f i : ℕ) → frames_to x f i < frames_to x f (suc i)
later x f i = (passed x (frames_to x f i)).soon

pub after_headers : (x f i : ℕ) → f < frames_to x f i
after_headers x f zero = (passed x f).soon
after_headers x f (suc i) = let l = after_headers x f i in let m = later x f i in omega arith

pub in_order : (x f i j : ℕ) → i < j → frames_to x f i < frames_to x f j
in_order x f i zero h = absurd (omega arith)
in_order x f i (suc j) h = last_when_lem (eqb i j) refl (in_order x f i j)
  where
    last_when_lem : (t : Bool) → eqb i j ≡ t → (i < j → frames_to x f i < frames_to x f j)
        → frames_to x f i < frames_to x f (suc j)
    last_when_lem true e l = rw (eqb-true i j e) (later x f j)
    last_when_lem false e l = let n = eqb-false i j e in let k = l (omega arith) in let m = later x f j in omega arith

pub no_later : (x f i j : ℕ) → i ≤ j → frames_to x f i ≤ frames_to x f j
no_later x f i j h = go (eqb i j) refl
  where
    go : (t : Bool) → eqb i j ≡ t → frames_to x f i ≤ frames_to x f j
    go true e = rw (eqb-true i j e) (omega arith)
    go false e = let n = eqb-false i j e in let l = in_order x f i j (omega arith) in omega arith

-- ---- how many they are

-- a frame for each repeat and for each block up to this one, and one more where 18 lies among those of the blocks
abbrev Counted : ℕ → ℕ → ℕ → ℕ → Type 0
Counted x f i p = let y = next_frame (x + f) + i in ((p ≡ f + suc i) × (y ≤ 17)) ⊎ ((p ≡ suc (f + suc i)) × (18 ≤ y))

counted_first : (x f p : ℕ) → Passes x (suc f) p → Counted x f 0 p
counted_first x f p (inl (e, h)) = inl (omega arith, omega arith)
counted_first x f p (inr (e, h)) = inr (omega arith, omega arith)

counted_next : (x f i p q : ℕ) → i ≤ 15 → Counted x f i p → Passes x (suc p) q → Counted x f (suc i) q
counted_next x f i p q l (inl (e, h)) (inl (d, g)) = inl (omega arith, omega arith)
counted_next x f i p q l (inl (e, h)) (inr (d, g)) = inr (omega arith, omega arith)
counted_next x f i p q l (inr (e, h)) (inl (d, g)) = inr (omega arith, omega arith)
counted_next x f i p q l (inr (e, h)) (inr (d, g)) = absurd (omega arith)

counted : (x f i : ℕ) → i ≤ 16 → Counted x f i (frames_to x f i)
counted x f zero l = counted_first x f (frames_to x f 0) (first_soon x f)
counted x f (suc i) l =
    counted_next x f i (frames_to x f i) (frames_to x f (suc i)) (omega arith) (counted x f i (omega arith))
    (passes x (suc (frames_to x f i)))

pub frames_closed : (x f i : ℕ) → i ≤ 16
    → frames_to x f i ≡ f + suc i + cond (leb 18 (next_frame (x + f) + i)) 1 0
frames_closed x f i l = go (counted x f i l)
  where
    go : Counted x f i (frames_to x f i) → frames_to x f i ≡ f + suc i + cond (leb 18 (next_frame (x + f) + i)) 1 0
    go (inl (e, h)) = rw (lt-leb 18 (next_frame (x + f) + i) (omega arith)) (omega arith)
    go (inr (e, h)) = rw (le-leb 18 (next_frame (x + f) + i) h) (omega arith)

-- a frame for each repeat and for each block up to this one, and one more for each 17 frames from frame 1 on
abbrev closed : ℕ → ℕ → ℕ → ℕ
closed x f i = f + suc i + since1 x f i / 17

pub frames_counted : (x f i : ℕ) → frames_to x f i ≡ closed x f i
frames_counted x f zero = go (frames_to x f 0) (first_soon x f)
  where
    go : (p : ℕ) → Passes x (suc f) p → p ≡ closed x f 0
    go p (inl (e, h)) = omega arith
    go p (inr (e, h)) = omega arith
frames_counted x f (suc i) =
    go (frames_to x f i) (frames_to x f (suc i)) (frames_counted x f i) (passes x (suc (frames_to x f i)))
  where
    go : (p q : ℕ) → p ≡ closed x f i → Passes x (suc p) q → q ≡ closed x f (suc i)
    go p q e (inl (d, h)) = omega arith
    go p q e (inr (d, h)) = omega arith

-- each at most two frames after the one before
soon_by : (x k p : ℕ) → Passes x k p → p ≤ suc k
soon_by x k p (inl (e, h)) = omega arith
soon_by x k p (inr (e, h)) = omega arith

pub next_soon : (x f i : ℕ) → frames_to x f (suc i) ≤ suc (suc (frames_to x f i))
next_soon x f i = soon_by x (suc (frames_to x f i)) (frames_to x f (suc i)) (passes x (suc (frames_to x f i)))

-- from a repeat of the header, g frames on, they are those of the header but for these
pub passing_from : (x y g k : ℕ) → frame_number x (g + k) ≡ frame_number y k → passing x (g + k) ≡ g + passing y k
passing_from x y g k e = ap (λ (n : ℕ). cond (eqb n 18) (suc (g + k)) (g + k)) e ∙ go (eqb (frame_number y k) 18)
  where
    go : (t : Bool) → cond t (suc (g + k)) (g + k) ≡ g + cond t (suc k) k
    go true = omega arith
    go false = refl

pub frames_from : (x y g c i : ℕ) → 1 ≤ x → y ≡ frame_number x g → frames_to x (c + g) i ≡ g + frames_to y c i
frames_from x y g c zero l e =
    let n : suc (c + g) ≡ g + suc c = omega arith in
    ap (passing x) n ∙ passing_from x y g (suc c) (omega arith)
frames_from x y g c (suc i) l e =
    let h = frames_from x y g c i l e in
    let n : suc (frames_to x (c + g) i) ≡ g + suc (frames_to y c i) = omega arith in
    ap (passing x) n ∙ passing_from x y g (suc (frames_to y c i)) (omega arith)

-- ---- their numbers

-- a due frame is one of 1 to 17, never 18
pub due_range : (x f i : ℕ) → (1 ≤ due_frame x f i) × (due_frame x f i ≤ 17)
due_range x f zero = (omega arith, (passed x f).never_18)
due_range x f (suc i) = (omega arith, (passed x (frames_to x f i)).never_18)

-- successive blocks go in successive frames of 1 to 17
pub due_next : (x f i : ℕ) → due_frame x f (suc i) ≡ due_frame x f i % 17 + 1
due_next x f i =
    let l = after_headers x f i in
    let r = (due_range x f i).1 in
    next_by (due_frame x f i) (frame_number x (suc (frames_to x f i))) (due_frame x f (suc i)) r (omega arith)
    (passed x (frames_to x f i)).number
  where
    next_by : (y z d : ℕ) → y ≤ 17 → z ≡ y % 18 + 1 → d ≡ (z - 1) % 17 + 1 → d ≡ y % 17 + 1
    next_by y z d l e n = let w : z - 1 ≡ y = omega arith in rw w at n

-- the first block's, and so every block's
abbrev pub first_frame : ℕ → ℕ → ℕ
first_frame x f = cond (eqb (next_frame (x + f)) 18) 1 (next_frame (x + f))

first_by : (x f p : ℕ) → Passes x (suc f) p → frame_number x p ≡ first_frame x f
first_by x f p (inl (e, h)) = rw (e, ne_eqb (next_frame (x + f)) 18 (λ z. omega arith)) (omega arith)
first_by x f p (inr (e, h)) = rw (e, eq-eqb (next_frame (x + f)) 18 (omega arith)) (omega arith)

pub due_first : (x f : ℕ) → due_frame x f 0 ≡ first_frame x f
due_first x f = first_by x f (frames_to x f 0) (first_soon x f)

pub due_closed : (x f i : ℕ) → due_frame x f i ≡ (first_frame x f - 1 + i) % 17 + 1
due_closed x f zero = let r = due_range x f 0 in let e = due_first x f in omega arith
due_closed x f (suc i) = let e = due_closed x f i in let n = due_next x f i in omega arith

-- and as frames 1 to 17 counted from frame 1
pub due_counted : (x f i : ℕ) → due_frame x f i ≡ since1 x f i % 17 + 1
due_counted x f i = let e = frames_counted x f i in omega arith

-- headers with the same frame after their last repeats have the same due frames
pub due_alike : (x f y c i : ℕ) → next_frame (x + f) ≡ next_frame (y + c) → due_frame x f i ≡ due_frame y c i
due_alike x f y c i e =
    due_closed x f i ∙ ap (λ (z : ℕ). (cond (eqb z 18) 1 z - 1 + i) % 17 + 1) e ∙ sym (due_closed y c i)
