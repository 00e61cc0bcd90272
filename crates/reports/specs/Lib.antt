-- A report before any receiver is touched: what it is refused for, and what it brings.
pub mod Lent
pub mod Turns
pub mod Units
pub mod Reading
pub mod Nears
