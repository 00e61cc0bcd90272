-- The laws of bit strings, for this crate and those above.
pub mod Numbers
pub mod Bytes
pub mod Over
pub mod Writing
pub mod Filling
pub mod Searching
pub mod Packing
pub mod Runs
pub mod Tests
