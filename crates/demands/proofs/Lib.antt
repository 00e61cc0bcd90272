-- The proofs of the demands and of the examples.
pub mod Demand2Holds
pub mod CopyLaws
pub mod Demand3Holds
pub mod Demand1Holds
pub mod ReportedLaws
pub mod CallLaws
pub mod Req03Holds
pub mod Req02Holds
pub mod SeriesLaws
pub mod CutLaws
pub mod BuiltCut
pub mod BroughtLaws
pub mod Req12Holds
pub mod Req06Holds
pub mod ExamplesHold
pub mod RunHolds
