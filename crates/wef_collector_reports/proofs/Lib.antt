pub mod Channels
pub mod HeldPages
pub mod Sources
