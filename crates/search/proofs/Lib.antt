pub mod Free
pub mod Zero
