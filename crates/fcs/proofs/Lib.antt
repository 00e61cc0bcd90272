-- The laws of the FCS, for this crate and those above.
pub mod Polynomials
pub mod Division
pub mod Words
pub mod Annex
pub mod Rules
pub mod Register
pub mod Numbers
