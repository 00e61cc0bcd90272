-- The numbers of a record, the lowest byte first.
use Rattle.std.specs.Prelude.{List, ℕ, ◌+◌, ◌*◌, get_or}

abbrev pub two_at : List ℕ → ℕ → ℕ
two_at body at = get_or body at 0 + 256 * get_or body (at + 1) 0

abbrev pub four_at : List ℕ → ℕ → ℕ
four_at body at =
    get_or body at 0 + 256 * get_or body (at + 1) 0 + 65536 * get_or body (at + 2) 0 + 16777216 * get_or body (at + 3) 0

abbrev pub eight_at : List ℕ → ℕ → ℕ
eight_at body at = four_at body at + 4294967296 * four_at body (at + 4)
