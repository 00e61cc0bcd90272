-- The definitions that the contracts of `store` cite.
pub mod Store
