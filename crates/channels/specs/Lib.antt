pub mod Free
pub mod Offset
