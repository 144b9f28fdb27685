pub mod Messages
pub mod Injective
pub mod Example
