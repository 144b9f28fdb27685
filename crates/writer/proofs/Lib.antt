pub mod Exact
pub mod Calls
