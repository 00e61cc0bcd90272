-- Which transfers are booked, read off the list of all of them: those whose pair is not among the last 32 booked.
use Rattle.std.specs.Prelude.{◌≡◌, ◌⊎◌, Bool, true, false, cond, ◌&&◌, List, [], ◌∷◌, ℕ, suc, eqb, take}
use Rattle.history.specs.Line.{Line, start, ◌▸◌, ◌⧺◌}

-- A transfer's pair: its source address and its message reference.
pub record Pair : Type 0 where
  pub source : ℕ
  pub reference : ℕ

-- This pair is among these.
abbrev pub In : Pair → List Pair → Type 0
In p [] = ⊥
In p (q ∷ qs) = (p ≡ q) ⊎ In p qs

-- Whether it is: the test.
abbrev pub same : Pair → Pair → Bool
same p q = eqb p.source q.source && eqb p.reference q.reference

abbrev pub among : Pair → List Pair → Bool
among p [] = false
among p (q ∷ qs) = cond (same p q) true (among p qs)

-- Of bookings, newest first, the last 32.
abbrev pub last32 : List Pair → List Pair
last32 bs = take 32 bs

-- The bookings with one transfer more: its pair is put in front, unless it is marked "again".
abbrev pub entering : (again : Bool) → Pair → List Pair → List Pair
entering true p bs = bs
entering false p bs = p ∷ bs

-- What is booked of a list of transfers, newest first.
abbrev pub booked : Line Pair → List Pair
booked start = []
booked (ts ▸ p) = entering (among p (last32 (booked ts))) p (booked ts)

-- What is booked of further transfers, newest first.
abbrev pub since : Line Pair → Line Pair → List Pair
since ts start = []
since ts (us ▸ p) = entering (among p (last32 (booked (ts ⧺ us)))) p (since ts us)

-- A transfer with this pair, after these, is marked "again"; or it is booked.
abbrev pub IsAgain : Line Pair → Pair → Type 0
IsAgain ts p = In p (last32 (booked ts))

abbrev pub IsBooked : Line Pair → Pair → Type 0
IsBooked ts p = IsAgain ts p → ⊥

-- A transfer with this pair is among these.
abbrev pub On : Pair → Line Pair → Type 0
On p start = ⊥
On p (ts ▸ t) = (p ≡ t) ⊎ On p ts

-- No two of these are the same.
abbrev pub Different : List Pair → Type 0
Different [] = Unit {0}
Different (p ∷ ps) = (In p ps → ⊥) × Different ps

-- How often this pair is among these.
abbrev pub times : Pair → List Pair → ℕ
times p [] = 0
times p (q ∷ qs) = cond (same p q) (suc (times p qs)) (times p qs)
