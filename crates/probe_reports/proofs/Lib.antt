-- The laws of settings and reports.
pub mod Telling
