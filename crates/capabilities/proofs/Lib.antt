pub mod Messages
pub mod Walks
pub mod Calls
pub mod Exact
