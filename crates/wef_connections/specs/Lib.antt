pub mod Opening
pub mod Memory
