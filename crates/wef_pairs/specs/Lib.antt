pub mod Laws
pub mod Pairs
