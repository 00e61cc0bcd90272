-- The laws of what is told of a record.
pub mod Telling
