pub mod Zero
pub mod Free
