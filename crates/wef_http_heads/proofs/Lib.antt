pub mod HeadsEnd
pub mod One
pub mod Parted
pub mod Parts
pub mod Questions
pub mod Visible
pub mod Wholes
