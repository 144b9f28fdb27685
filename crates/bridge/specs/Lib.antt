pub mod Read
pub mod List
