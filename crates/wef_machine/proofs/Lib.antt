pub mod Declared
pub mod NameMaps
pub mod Names
pub mod Settling
pub mod SettlingAlike
pub mod Turning
