-- The demands, the requests and the examples.
pub mod Examples
pub mod Demand2
pub mod Calls
pub mod Demand3
pub mod Demand1
pub mod OfCalls
pub mod Req03
pub mod Req02
pub mod Req12
pub mod Req06
pub mod RunRows
pub mod RunTable
pub mod Run
