pub mod AllSelected
pub mod Groups
pub mod Runs
pub mod SaidPaths
pub mod Sorting
pub mod Trimmed
pub mod WrittenGood
pub mod WrittenRead
