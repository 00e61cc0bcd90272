-- The numbers of a record.
pub mod Numbers
