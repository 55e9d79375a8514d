pub mod GoodPieces
pub mod Inversions
pub mod Runs
pub mod Shorter
pub mod Spelt
pub mod Turns
