pub mod FaultsAreGood
pub mod FaultsAreRead
pub mod Places
pub mod Tables
pub mod WrittenIsGood
pub mod WrittenIsRead
