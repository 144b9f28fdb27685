pub mod Writing
pub mod Zeros
pub mod Sizes
pub mod Judging
pub mod Weighing
pub mod Bodies
pub mod Heads
