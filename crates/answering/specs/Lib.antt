-- The calendar of a response, and what it has to be.
pub mod Calendar
pub mod Laid
