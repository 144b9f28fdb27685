pub mod Numbers
pub mod Report
pub mod State
pub mod Written
pub mod Claims
