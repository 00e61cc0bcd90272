-- The definitions that the contracts of `probe_transport` cite.
pub mod Body
pub mod Calls
