-- What a taken record says of an input's bytes.
use Rattle.std.specs.Prelude.{◌≡◌, List, [], ◌++◌, ℕ, ◌+◌, length, take}
use Rattle.std.specs.Io.KnownBytes.{Consumes}
use Rattle.std.specs.declared.option.Option.{Option}
use Rattle.records.specs.Numbers.{two_at}
use Rattle.lines.specs.declared.input.Taken.{Taken}
use Rattle.lines.specs.declared.input.Taken.TheVariants.{Record, Cut, End}

-- What a record took of an input whose bytes are known: four bytes of head, which tell its length and its kind, and its
-- body; at the end nothing.
abbrev pub Took : Option (List ℕ) → Option (List ℕ) → Taken → List ℕ → Type 0
Took old new (Record kind n) body =
    (head : List ℕ) × (length head ≡ 4) × (two_at head 0 ≡ n + 2) × (two_at head 2 ≡ kind)
    × Consumes old new (head ++ take n body)
Took old new Cut body = (bs : List ℕ) × Consumes old new bs
Took old new End body = Consumes old new []
