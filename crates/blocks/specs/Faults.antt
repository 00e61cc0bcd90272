-- Fault numbers: rules are checked in an order, and the first that does not hold gives its number.
use Rattle.std.specs.Prelude.{◌≡◌, Bool, true, false, List, [], ◌∷◌, ◌++◌, ℕ, zero, suc, Result, Ok, Err}
use Rattle.blocks.specs.declared.fault.Fault.{Fault}
use Rattle.blocks.specs.declared.fault.Fault.TheVariants.{
  Length,
  Pad,
  System,
  SyncType,
  Communication,
  Encryption,
  Frame,
  AddressType,
  MessageType,
  Count,
  Fill,
  PduType,
  Range,
  TooLong,
  ReportFrame,
  ReportSlot,
  Buffer,
  Place,
  NotSdsTl,
  TooShort,
}

-- The faults' numbers.
abbrev pub number_of : Fault → ℕ
number_of Length = 1
number_of Pad = 2
number_of System = 3
number_of SyncType = 4
number_of Communication = 5
number_of Encryption = 6
number_of Frame = 7
number_of AddressType = 8
number_of MessageType = 9
number_of Count = 10
number_of Fill = 11
number_of PduType = 12
number_of Range = 13
number_of TooLong = 14
number_of ReportFrame = 15
number_of ReportSlot = 16
number_of Buffer = 17
number_of Place = 18
number_of NotSdsTl = 21
number_of TooShort = 22

-- The number that a test's outcome comes to: that of its fault, 0 where there is none.
abbrev pub refusal : {T : Type 0} → Result T Fault → ℕ
refusal (Ok _) = 0
refusal (Err f) = number_of f

-- The number of a rule that does not hold; 0 where it holds.
abbrev pub unless : Bool → ℕ → ℕ
unless true n = 0
unless false n = n

-- The first number given, 0 where none is.
abbrev pub first_of : List ℕ → ℕ
first_of [] = 0
first_of (zero ∷ ns) = first_of ns
first_of (suc n ∷ ns) = suc n

-- No number is given.
abbrev pub AllZero : List ℕ → Type 0
AllZero [] = Unit {0}
AllZero (n ∷ ns) = (n ≡ 0) × AllZero ns

-- This number, one more than n, is the first given: the rules before it hold.
pub record GivenFirst (n : ℕ) (numbers : List ℕ) : Type 0 where
  pub passed : List ℕ
  pub others : List ℕ
  pub split : numbers ≡ passed ++ suc n ∷ others
  pub holding : AllZero passed
