pub mod Listed
pub mod Booked
pub mod Scan
