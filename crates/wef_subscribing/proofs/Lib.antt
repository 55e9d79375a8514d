mod Behind
pub mod Counted
mod Delivered
mod Requested
pub mod RequestedByRows
mod Rounds
pub mod ServedByRows
mod Turned
