pub mod Drawn
pub mod Goods
pub mod Names
