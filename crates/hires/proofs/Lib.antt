-- The laws of a program that hears and books.
pub mod HandedLaws
pub mod ProgramLaws
pub mod PossibleLaws
pub mod ArrivalLaws
pub mod OthersLaws
pub mod JuneHolds
pub mod Req04Holds
