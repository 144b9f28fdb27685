pub mod Layer
pub mod Kind
pub mod Step
pub mod Message
pub mod Packet
pub mod Claims
