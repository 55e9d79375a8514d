pub mod AcksAreGood
pub mod Draws
pub mod ResponsesCanBeTaken
pub mod ResponsesHeard
pub mod SaidOfCalls
