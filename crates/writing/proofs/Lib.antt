pub mod Taken
pub mod Parts
pub mod Shape
