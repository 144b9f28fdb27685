pub mod Reports
pub mod Walks
