-- The laws of what the calls say.
pub mod Saying
pub mod Builds
