pub mod Walking
pub mod Offsets
pub mod Exact
pub mod Packets
pub mod Numbers
pub mod Example
