-- The number of a fault is not 0, the number of none. Assumes nothing.
use mathlib.Core.Path.{◌≡◌}
use native.Mathlib.Omega.{arith}
use Rattle.blocks.specs.Faults.{number_of}
use Rattle.blocks.specs.declared.fault.Fault.{Fault}
use Rattle.blocks.specs.declared.fault.Fault.TheVariants.{
  Length,
  Pad,
  System,
  SyncType,
  Communication,
  Encryption,
  Frame,
  AddressType,
  MessageType,
  Count,
  Fill,
  PduType,
  Range,
  TooLong,
  ReportFrame,
  ReportSlot,
  Buffer,
  Place,
  NotSdsTl,
  TooShort,
}

pub number_some : (f : Fault) → number_of f ≡ 0 → ⊥
number_some Length e = omega arith
number_some Pad e = omega arith
number_some System e = omega arith
number_some SyncType e = omega arith
number_some Communication e = omega arith
number_some Encryption e = omega arith
number_some Frame e = omega arith
number_some AddressType e = omega arith
number_some MessageType e = omega arith
number_some Count e = omega arith
number_some Fill e = omega arith
number_some PduType e = omega arith
number_some Range e = omega arith
number_some TooLong e = omega arith
number_some ReportFrame e = omega arith
number_some ReportSlot e = omega arith
number_some Buffer e = omega arith
number_some Place e = omega arith
number_some NotSdsTl e = omega arith
number_some TooShort e = omega arith
