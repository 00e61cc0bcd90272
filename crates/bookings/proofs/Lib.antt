-- The laws of the index, and the proof of what is shown of it.
pub mod Numbers
pub mod PairLaws
pub mod BookedLaws
pub mod KeptLaws
pub mod BookLaws
pub mod CallLaws
pub mod IndexHolds
