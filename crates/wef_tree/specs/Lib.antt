pub mod Laws
pub mod Loose
