-- The definitions that the contracts of `blocks` cite, in the words of EN 300 396-3 and document 01.
pub mod Faults
pub mod Widths
pub mod Sdu
pub mod Sync
pub mod Header
pub mod Continuation
pub mod Slots
