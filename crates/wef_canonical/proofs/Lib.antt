pub mod BareTags
pub mod Runs
