pub mod Accounts
pub mod Serving
pub mod Turns
