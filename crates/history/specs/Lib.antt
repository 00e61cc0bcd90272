-- What the history of slot reports asks for, and the step that answers it, in the words of document 01.
pub mod Line
pub mod Slots
pub mod History
pub mod Step
pub mod Once
pub mod Fate
pub mod Lasts
pub mod Seven
