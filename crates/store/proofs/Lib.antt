-- The laws of stores, for this crate and those above.
pub mod Stores
pub mod Messages
pub mod Blocks
