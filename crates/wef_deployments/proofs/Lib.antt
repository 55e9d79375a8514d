pub mod Folders
pub mod Hearing
pub mod Printed
pub mod Sources
pub mod Worlds
