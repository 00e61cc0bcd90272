-- The table of widths: message types (9.3.19) and their message dependent elements (9.4, 9.5).
use Rattle.std.specs.Prelude.{Bool, true, false, List, [], ◌∷◌, ℕ, ◌+◌, ◌^◌, eqb, ltb, leb, get_or}
use Rattle.bits.specs.Bits.{bits_n, field}
use Rattle.blocks.specs.declared.widths.Entry.{Entry}

-- Elements of one width.
abbrev pub fixed : ℕ → Entry
fixed w = record { width = w; first = record { place = 0; adds = 0 }; second = record { place = 0; adds = 0 } }

-- An element that hangs on a flag: where the bit at place p is 1, it adds a bits.
abbrev pub flagged : ℕ → ℕ → ℕ → Entry
flagged w p a = record { width = w; first = record { place = p; adds = a }; second = record { place = 0; adds = 0 } }

-- Two such; the second flag's place is counted without what the first adds.
abbrev pub flagged_twice : ℕ → ℕ → ℕ → ℕ → ℕ → Entry
flagged_twice w p a p2 a2 =
    record { width = w; first = record { place = p; adds = a }; second = record { place = p2; adds = a2 } }

-- A code without an entry.
abbrev pub no_entry : Entry
no_entry = fixed 255

abbrev pub table : List Entry
table =
    flagged 18 8 8 ∷  -- 0 DM-RESERVED, 9.4.1: requests flag, requests bitmap
    fixed 7 ∷  -- 1 DM-SDS OCCUPIED, 9.4.2
    fixed 12 ∷  -- 2 DM-TIMING REQUEST, 9.4.3
    flagged 2 1 12 ∷  -- 3 DM-TIMING ACK, 9.4.4: timing change announced, timing adjustment
    no_entry ∷  -- 4 reserved
    no_entry ∷  -- 5 reserved
    no_entry ∷  -- 6 reserved
    no_entry ∷  -- 7 reserved
    fixed 21 ∷  -- 8 DM-SETUP, 9.5.1
    fixed 21 ∷  -- 9 DM-SETUP PRES, 9.5.2
    fixed 8 ∷  -- 10 DM-CONNECT, 9.5.3
    fixed 0 ∷  -- 11 DM-DISCONNECT, 9.5.4
    fixed 21 ∷  -- 12 DM-CONNECT ACK, 9.5.5
    fixed 21 ∷  -- 13 DM-OCCUPIED, 9.5.6
    fixed 0 ∷  -- 14 DM-RELEASE, 9.5.7
    flagged_twice 13 7 8 10 12 ∷  -- 15 DM-TX CEASED, 9.5.8: requests flag, bitmap; timing change announced, adjustment
    flagged 3 0 12 ∷  -- 16 DM-TX REQUEST, 9.5.9: timing change required, timing adjustment
    flagged 1 0 12 ∷  -- 17 DM-TX ACCEPT, 9.5.10: timing change announced, timing adjustment
    flagged 10 2 12 ∷  -- 18 DM-PREEMPT, 9.5.11: timing change required, timing adjustment
    flagged 6 0 12 ∷  -- 19 DM-PRE ACCEPT, 9.5.12: timing change announced, timing adjustment
    fixed 0 ∷  -- 20 DM-REJECT, 9.5.13
    fixed 0 ∷  -- 21 DM-INFO, 9.5.14
    fixed 8 ∷  -- 22 DM-SDS UDATA, 9.5.15
    fixed 8 ∷  -- 23 DM-SDS DATA, 9.5.16
    fixed 1 ∷  -- 24 DM-SDS ACK, 9.5.17
    no_entry ∷  -- 25 gateway-specific messages
    no_entry ∷  -- 26 reserved
    no_entry ∷  -- 27 reserved
    no_entry ∷  -- 28 reserved
    no_entry ∷  -- 29 reserved
    no_entry ∷  -- 30 proprietary
    no_entry ∷  -- 31 proprietary
    []

unfoldable pub entry_of : ℕ → Entry
entry_of message = get_or table message no_entry

-- What a flag adds.
abbrev pub added_if : Bool → ℕ → ℕ
added_if true n = n
added_if false n = 0

abbrev pub added : ℕ → ℕ → ℕ
added flag n = added_if (eqb flag 1) n

-- The width of the elements that start this string: its flags name the case.
unfoldable pub width_of : Entry → List Bool → ℕ
width_of e run =
    let a = added (field e.first.place 1 run) e.first.adds in
    e.width + a + added (field (a + e.second.place) 1 run) e.second.adds

-- Whether a run of elements is one that the table has: its width is that of the case that its own flags name, and its
-- number fits. A message type without entry is not tested.
abbrev pub run_holds : Bool → Bool → Bool → Bool
run_holds false small right = true
run_holds true false right = false
run_holds true true right = right

unfoldable pub run_fits : ℕ → ℕ → ℕ → Bool
run_fits message width elements =
    run_holds (leb (entry_of message).width 254) (ltb elements (2 ^ width))
    (eqb (width_of (entry_of message) (bits_n width elements)) width)
