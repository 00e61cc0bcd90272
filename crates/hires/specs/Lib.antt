-- Request 04, and a transfer on its way from build to booking.
pub mod Req04
pub mod Program
pub mod June
pub mod Examples
