-- What is read and what is printed: a record's body, and the line that answers it.
use Rattle.std.specs.Prelude.{◌≡◌, Bool, true, false, cond, List, [], ◌∷◌, ◌++◌, ℕ, ◌≤◌, eqb, length, take, drop}
use Rattle.std.proofs.Math.Option.{Option, none, some}
use Rattle.text.specs.Text.{Wrote, spaced, hex_of}
use Rattle.lines.specs.declared.input.Taken.{Taken}
use Rattle.lines.specs.declared.input.Taken.TheVariants.{Record, Cut, End}
use Rattle.std.specs.declared.option.Option as answer
use Rattle.std.specs.declared.option.Option.TheVariants.{Some, None}

-- The first n bytes of a run are within it.
abbrev pub IsPrefixLen : ℕ → List ℕ → Type 0
IsPrefixLen n xs = (n ≤ length xs) × (n ≡ length (take n xs))

-- A record's body stands at the buffer's start.
abbrev pub Held : Taken → List ℕ → Type 0
Held (Record kind n) body = IsPrefixLen n body
Held Cut body = Unit {0}
Held End body = Unit {0}

-- ---- The lines.

-- A word and numbers in decimal with a space before each; the same, and a line end.
unfoldable pub start_of : List ℕ → List ℕ → List ℕ
start_of word ns = word ++ spaced ns

unfoldable pub line_of : List ℕ → List ℕ → List ℕ
line_of word ns = start_of word ns ++ (10 ∷ [])

-- HEX: two digits for each byte, `-` for none.
unfoldable pub hex_text : List ℕ → List ℕ
hex_text [] = 45 ∷ []
hex_text (x ∷ xs) = hex_of (x ∷ xs)

-- REST: 1 if every byte is 5A, else 0.
unfoldable pub rest_of : List ℕ → ℕ
rest_of [] = 1
rest_of (x ∷ xs) = cond (eqb x 90) (rest_of xs) 0

-- The first n bytes of a lent output and what is said of the rest, a space before each; a word and numbers before
-- them, and a line end; and more numbers before the line end.
unfoldable pub shown_of : ℕ → List ℕ → List ℕ
shown_of n s = (32 ∷ hex_text (take n s)) ++ spaced (rest_of (drop n s) ∷ [])

unfoldable pub start_with : List ℕ → List ℕ → ℕ → List ℕ → List ℕ
start_with word ns n s = start_of word ns ++ shown_of n s

unfoldable pub line_with : List ℕ → List ℕ → ℕ → List ℕ → List ℕ
line_with word ns n s = start_with word ns n s ++ (10 ∷ [])

unfoldable pub line_then : List ℕ → List ℕ → ℕ → List ℕ → List ℕ → List ℕ
line_then word ns n s more = (start_with word ns n s ++ spaced more) ++ (10 ∷ [])

-- ---- What the calls print of a record's body; none where it is too short.

abbrev pub from_body : Bool → List ℕ → Option (List ℕ)
from_body true line = some line
from_body false line = none

-- `kind`.
abbrev pub kind_text : List ℕ
kind_text = 107 ∷ 105 ∷ 110 ∷ 100 ∷ 10 ∷ []

-- Another kind.
abbrev pub unknown_line : Option (List ℕ)
unknown_line = some kind_text

-- By the record's kind.
abbrev pub choose : Bool → Option (List ℕ) → Option (List ℕ) → Option (List ℕ)
choose true a b = a
choose false a b = b

-- ---- What was printed.

-- A line that was written at the buffer's start and fits it; or nothing was.
pub record Stands (old line new : List ℕ) (n : ℕ) : Type 0 where
  pub wrote : Wrote old 0 line new n
  pub fits : n ≤ length new

abbrev pub Says : List ℕ → Option (List ℕ) → List ℕ → answer.Option ℕ → Type 0
Says old (some line) new (Some n) = Stands old line new n
Says old none new None = new ≡ old
Says old (some line) new None = ⊥
Says old none new (Some n) = ⊥
