pub mod Exact
pub mod Handed
