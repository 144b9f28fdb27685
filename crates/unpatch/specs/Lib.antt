pub mod Unpatch
