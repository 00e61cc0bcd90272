-- The definitions that the contracts of `build` cite, in the words of EN 300 396-3 and document 01.
pub mod Plan
pub mod Build
