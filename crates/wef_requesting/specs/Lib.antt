pub mod ByRows
pub mod Requesting
