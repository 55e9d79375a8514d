pub mod Admitting
pub mod Drawing
pub mod Laws
pub mod Rising
