-- A message on its way from build to hand-over.
pub mod Sent
pub mod EndToEnd
pub mod Mixed
pub mod Delivered
