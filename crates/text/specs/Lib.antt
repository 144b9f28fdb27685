pub mod Prints
pub mod Text
pub mod Claims
