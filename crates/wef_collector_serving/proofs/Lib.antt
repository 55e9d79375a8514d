pub mod AlikeAnswers
pub mod AlikeConnections
pub mod AlikeRows
pub mod Hosts
pub mod Writable
pub mod Counted
pub mod OverRows
