pub mod Children
pub mod Good
pub mod Spaces
pub mod Texts
pub mod Values
