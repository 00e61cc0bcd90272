-- The slot log, what is heard of it and what is printed of it.
pub mod Log
pub mod Replies
pub mod Asked
pub mod Print
pub mod Room
pub mod Runs
pub mod Printer
pub mod Laws
