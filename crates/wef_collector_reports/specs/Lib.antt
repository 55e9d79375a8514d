pub mod Judged
pub mod Listing
pub mod Report
pub mod Runs
