pub mod Spans
pub mod Blocks
