pub mod Fitted
pub mod InOrder
pub mod Marked
pub mod Numbered
pub mod Ranges
pub mod Spared
pub mod Takes
pub mod WantedEvents
