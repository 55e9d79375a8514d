pub mod Accounts
pub mod Answers
