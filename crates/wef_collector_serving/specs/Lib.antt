pub mod Accounts
pub mod Answers
pub mod ByRows
pub mod Clocks
pub mod Laws
