pub mod Behind
pub mod Summary
