pub mod Levels
pub mod Claims
