pub mod Faults
pub mod IdTexts
pub mod Ids
