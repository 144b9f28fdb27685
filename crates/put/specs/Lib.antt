pub mod Put
pub mod Faults
