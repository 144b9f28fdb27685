pub mod Bits
pub mod Entry
pub mod Book
pub mod Claims
