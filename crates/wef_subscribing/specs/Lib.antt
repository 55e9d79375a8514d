pub mod ByRows
pub mod Counts
pub mod Requesting
pub mod Serving
