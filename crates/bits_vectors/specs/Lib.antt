-- What the contracts of `bits_vectors` cite.
pub mod Measure
