pub mod ByRows
pub mod Clocks
pub mod Collecting
pub mod Forwarding
