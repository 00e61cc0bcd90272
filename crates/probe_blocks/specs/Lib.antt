-- The definitions that the contracts of `probe_blocks` cite.
pub mod Body
pub mod Calls
