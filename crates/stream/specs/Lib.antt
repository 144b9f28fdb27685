pub mod Accepted
pub mod Packets
pub mod Claims
pub mod Edges
