pub mod Digits
pub mod Durations
pub mod Expiry
pub mod Forms
pub mod Instants
pub mod Reading
