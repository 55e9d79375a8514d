pub mod Apart
pub mod Ascii
pub mod Copied
pub mod Glyphs
pub mod GoodNodes
pub mod Maps
pub mod Utf8
