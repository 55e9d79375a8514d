pub mod Addresses
pub mod Asking
pub mod Exchanges
pub mod Forwarding
