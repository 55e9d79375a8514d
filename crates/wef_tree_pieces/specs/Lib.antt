pub mod Names
pub mod Pieces
pub mod Reads
pub mod References
pub mod Runs
pub mod Tags
