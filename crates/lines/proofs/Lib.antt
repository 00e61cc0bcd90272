-- The laws of lines.
pub mod Printing
pub mod Outputs
pub mod Builds
