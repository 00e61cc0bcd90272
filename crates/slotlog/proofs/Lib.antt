pub mod LogLaws
pub mod RunLaws
pub mod TurnLaws
pub mod RoomLaws
pub mod AskedLaws
pub mod PrinterLaws
pub mod LawsHold
pub mod LineLaws
