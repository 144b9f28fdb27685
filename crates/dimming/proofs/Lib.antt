pub mod Theorem
pub mod Named
pub mod Numbers
pub mod Example
