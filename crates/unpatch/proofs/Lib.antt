pub mod Marks
pub mod Listed
pub mod Ranges
pub mod Found
pub mod Passes
