pub mod Call
pub mod Writer
