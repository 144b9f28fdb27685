pub mod Reports
pub mod Steps
pub mod LayerOf
pub mod Exact
