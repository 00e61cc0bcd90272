-- The record that stands for a state of the step, and what the calls promise.
pub mod View
pub mod Reached
