pub mod ByPages
pub mod Calls
pub mod Forming
pub mod Going
mod KindNumbers
mod Live
pub mod Openings
mod Pages
mod Places
pub mod ReadsOf
pub mod Sections
pub mod Stands
pub mod StayFormed
pub mod Told
