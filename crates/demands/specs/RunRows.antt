-- One report of a stored run, with what it is to answer.
use Rattle.std.specs.Prelude.{cond, List, ℕ, ◌*◌, eqb}
use Rattle.bits.specs.Bits.{bits_n, bytes_n}
use Rattle.reports.specs.Lent.{Lent, lent}

-- `stated`: outcome, dropped, fault, bits; source, message type and bits of a message that is lost.
pub record Row : Type 0 where
  pub lent : Lent
  pub stated : List ℕ

-- The bytes that a report of this kind lends, as one number, the first byte highest.
abbrev pub bytes_for : ℕ → ℕ
bytes_for kind = cond (eqb kind 1) 0 (cond (eqb kind 2) 24 34)

abbrev pub row : ℕ → ℕ → ℕ → ℕ → List ℕ → Row
row frame slot kind blocks stated =
    let bytes = bytes_n (bytes_for kind) (bits_n (8 * bytes_for kind) blocks) in
    record { lent = lent frame slot kind bytes; stated = stated }
