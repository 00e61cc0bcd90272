-- The laws of a message on its way.
pub mod SentLaws
pub mod HeardLaws
pub mod LayoutLaws
pub mod DifferentLaws
pub mod EndToEndHolds
pub mod DeliveredHolds
pub mod MixedHolds
