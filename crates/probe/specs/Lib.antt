-- The definitions that the contracts of `probe` cite.
pub mod Tells
