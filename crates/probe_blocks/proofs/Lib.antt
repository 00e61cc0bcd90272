-- The laws of the calls' lines.
pub mod Saying
pub mod Builds
