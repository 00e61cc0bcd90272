-- The definitions that the contracts of `probe_reports` cite.
pub mod Reports
