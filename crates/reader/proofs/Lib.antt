-- The laws of reading.
pub mod Examples
pub mod Held
pub mod Moving
pub mod Steps
