-- The laws of text, for this crate and those above.
pub mod Writing
pub mod Digits
pub mod Runs
