-- A method that moves a reader by a function of block, position and number: `Reader::move_by`, for any such function.
-- Where the function keeps to a definition of that form, so does the method, in its answer and in where the reader
-- stands then.
use mathlib.Core.Path.{◌≡◌, ap, ◌∙◌}
use mathlib.Core.List.{List}
use Prim.Native.Nat.{ℕ}
use Rattle.reader.specs.Reading.{step_by, answer_of, moved_to}
use Rattle.reader.specs.declared.Reader.{Reader}
use Rattle.reader.specs.declared.Step.{Step}

-- `said` is what the function says of its answer, at the reader's block and position and at the number.
pub moves : (step_of : List ℕ → ℕ → ℕ → Step) (old new : Reader) (n : ℕ) {said : Step → Type 0} (result : Step)
    → ((r : Step) → said r → r ≡ step_by step_of old n) → said result → new ≡ moved_to result old
    → (answer_of result ≡ answer_of (step_by step_of old n)) × (new ≡ moved_to (step_by step_of old n) old)
moves step_of old new n result keeps s m =
    let e = keeps result s in (ap answer_of e, m ∙ ap (λ (t : Step). moved_to t old) e)
