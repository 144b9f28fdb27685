pub mod Calls
pub mod Fields
pub mod Widths
pub mod Exact
