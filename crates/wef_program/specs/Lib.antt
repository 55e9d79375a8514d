pub mod InDatabase
pub mod Opening
