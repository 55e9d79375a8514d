pub mod BatchesSent
pub mod ByRows
pub mod Collected
pub mod CollectedAlike
pub mod LinksCounted
pub mod SentByRows
pub mod IdsDrawn
