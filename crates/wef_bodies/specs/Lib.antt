pub mod Laws
pub mod Leases
pub mod Offers
pub mod Reading
pub mod Spaces
pub mod Statuses
pub mod Written
