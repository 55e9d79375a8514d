pub mod AddressTexts
pub mod AddressesBack
pub mod AllEvents
pub mod DurationTexts
pub mod NameTexts
pub mod QueryTexts
pub mod Segments
