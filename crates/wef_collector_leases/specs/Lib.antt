pub mod Changes
pub mod Due
pub mod Judged
pub mod Laws
pub mod Leases
pub mod Next
pub mod Waiting
