pub mod Fields
pub mod Items
pub mod Injective
