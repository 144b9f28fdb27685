pub mod Prints
pub mod Digits
pub mod Loops
pub mod Texts
pub mod Delimited
pub mod Injective
