pub mod Messages
pub mod Silence
