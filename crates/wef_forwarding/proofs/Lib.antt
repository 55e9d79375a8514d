pub mod Exchanging
pub mod Forwarded
pub mod Requested
pub mod Sent
pub mod Settling
pub mod Taking
