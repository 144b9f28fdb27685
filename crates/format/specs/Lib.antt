pub mod Format
pub mod View
pub mod Passed
pub mod Walk
pub mod Fault
pub mod Copy
pub mod Refusals
