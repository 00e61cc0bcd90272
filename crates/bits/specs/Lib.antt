-- The definitions that the contracts of `bits` cite.
pub mod Bits
pub mod Fill
pub mod Layout
pub mod Runs
