-- The laws of `answering`, for this crate and those above.
pub mod FrameLaws
pub mod FillingLaws
pub mod AllLaws
pub mod LaidHolds
