pub mod Apart
pub mod Levels
pub mod Markup
pub mod Marks
