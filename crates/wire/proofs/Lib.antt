pub mod Numbers
pub mod Strings
pub mod Stepping
pub mod Blocks
pub mod Copying
pub mod Says
pub mod Reading
pub mod Plain
