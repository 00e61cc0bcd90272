-- The laws of blocks, for this crate and those above.
pub mod Tables
pub mod FaultLaws
pub mod WidthLaws
pub mod RunLaws
pub mod RoomLaws
pub mod RuleLaws
pub mod HeaderLaws
pub mod ReadLaws
pub mod SlotLaws
