-- A store of 512 bytes that holds a run of bits, zero beyond them; and the bytes of a message that is handed over.
use Rattle.std.specs.Prelude.{Bool, false, ◌&&◌, List, [], ◌∷◌, ◌++◌, ℕ, ◌+◌, ◌-◌, ◌/◌, eqb}
use Rattle.std.specs.Prelude.{length, take, drop, replicate}
use Rattle.bits.specs.Bits.{num, bits_of, bytes_n, over}
use Rattle.store.specs.declared.Raw.{Raw}

-- The store that holds these bits.
unfoldable pub store_of : List Bool → List ℕ
store_of b = bytes_n 512 (b ++ replicate (4096 - length b) false)

-- A store with these bits put in after the `at` bits that it holds.
unfoldable pub joined_to : List ℕ → ℕ → List Bool → List ℕ
joined_to store at m = bytes_n 512 (over at m (bits_of store))

-- A message's bytes; the last byte's spare bits are zero.
unfoldable pub message_bytes : List Bool → List ℕ
message_bytes m = bytes_n ((length m + 7) / 8) (m ++ replicate 7 false)

-- A lent buffer with a message at its start; bytes after it are unchanged.
abbrev pub handed : List Bool → List ℕ → List ℕ
handed m old = message_bytes m ++ drop (length (message_bytes m)) old

-- A lent buffer with the first `n` bits of a store at its start, in whole bytes.
abbrev pub first_over : ℕ → List ℕ → List ℕ → List ℕ
first_over n store old = take ((n + 7) / 8) store ++ drop ((n + 7) / 8) old

-- A string of 128 bits as two numbers: its first 64 bits and the others.
abbrev pub halves : List Bool → Raw
halves b = record { high = num (take 64 b); low = num (drop 64 b) }

-- A block of 16 bytes with the two bits from bit `at` on zero, as two numbers.
abbrev pub without : ℕ → List ℕ → Raw
without at h = halves (over at (false ∷ false ∷ []) (bits_of h))

-- Whether two such blocks are the same.
abbrev pub same_raw : Raw → Raw → Bool
same_raw a b = eqb a.high b.high && eqb a.low b.low
