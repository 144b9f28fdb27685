pub mod Codes
pub mod Says
pub mod Write
