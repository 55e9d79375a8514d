pub mod Documents
pub mod Printed
