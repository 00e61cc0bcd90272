-- A build that is called with a lent output.
use Rattle.std.specs.Prelude.{◌≡◌, List, ℕ, ◌≤◌, length}
use denote.Param.Members.{Once}
use denote.Ref.{Bor, MutBor}

abbrev pub Calls : Type 0 → Type 1
Calls F =
    Once F (Bor (List ℕ) × (MutBor (List ℕ) × (MutBor (List ℕ) × Unit {0})))
    (ℕ × (MutBor (List ℕ) × (MutBor (List ℕ) × Unit {0})))

-- It may be called with a body of at least 35 bytes, an output of at most so many and a line's room of at least 4,096.
abbrev pub Callable : {F : Type 0} → ℕ → Calls F → F → Type 0
Callable most g f =
    (body : Bor (List ℕ)) → (out line : MutBor (List ℕ)) → 35 ≤ length body.now → length out.now ≤ most
    → 4096 ≤ length line.now → g.pre f (body, (out, (line, tt)))

-- It was called with this body, output and room, answered n, and left this in the room.
pub record Lent {F : Type 0} (g : Calls F) (f : F) (body out old : List ℕ) (n : ℕ) (new : List ℕ) : Type 0 where
  pub read : Bor (List ℕ)
  pub lent : MutBor (List ℕ)
  pub room : MutBor (List ℕ)
  pub left : MutBor (List ℕ)
  pub line : MutBor (List ℕ)
  pub reads : read.now ≡ body
  pub lends : lent.now ≡ out
  pub before : room.now ≡ old
  pub met : g.post f (read, (lent, (room, tt))) (n, (left, (line, tt)))
  pub after : line.now ≡ new
