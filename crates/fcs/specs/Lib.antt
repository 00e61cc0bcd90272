-- The definitions that the contracts of `fcs` cite.
pub mod Polynomials
pub mod Annex
pub mod Register
