pub mod Runs
pub mod Records
pub mod Calls
