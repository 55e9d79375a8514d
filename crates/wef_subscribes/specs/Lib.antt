pub mod Addresses
pub mod Laws
pub mod Limits
pub mod Spaces
pub mod Steps
pub mod Subscribes
pub mod Written
