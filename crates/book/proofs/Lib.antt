pub mod Holes
pub mod Scan
pub mod Replaced
pub mod Held
pub mod Answers
pub mod Bodies
pub mod Exact
