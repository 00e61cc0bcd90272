-- The definitions that the contracts of `transport` cite, in the words of EN 300 396-3, 9.5.15 to 9.5.17 and 9.7, and
-- of EN 300 392-2, 29.4.2.
pub mod Layouts
pub mod Kinds
pub mod Elements
pub mod Runs
pub mod Reading
pub mod Building
pub mod Well
