pub mod About
pub mod HeardRows
pub mod Lengths
pub mod Merging
pub mod Told
