pub mod Passing
pub mod Tags
