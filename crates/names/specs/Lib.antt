pub mod Names
pub mod Messages
pub mod Claims
