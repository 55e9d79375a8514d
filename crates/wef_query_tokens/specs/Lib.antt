pub mod Calls
pub mod Laws
pub mod Reads
pub mod Steps
pub mod Tokens
