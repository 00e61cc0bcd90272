-- The definitions that the contracts of `bookings` cite, and what is shown of them.
pub mod Pairs
pub mod Kept
pub mod Book
pub mod Calls
pub mod Index
