pub mod Answered
pub mod Asked
pub mod Responded
pub mod Takings
