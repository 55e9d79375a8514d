pub mod Kept
pub mod Writable
