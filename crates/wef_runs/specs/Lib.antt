pub mod Acts
pub mod Deeds
pub mod Forwarded
pub mod Laws
pub mod Recorded
pub mod Runs
pub mod Served
