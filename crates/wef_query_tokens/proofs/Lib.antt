pub mod Calls
pub mod Shorter
