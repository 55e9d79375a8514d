pub mod Caps
pub mod DurationTexts
pub mod Epoch
pub mod Fronts
pub mod InstantTexts
