pub mod EachEntry
pub mod Joining
pub mod Kept
pub mod Maps
pub mod WrittenGood
pub mod WrittenRead
