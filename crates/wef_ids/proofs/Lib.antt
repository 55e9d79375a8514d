pub mod IdTexts
pub mod PlainIds
