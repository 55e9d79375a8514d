pub mod Complete
pub mod Laws
pub mod Settled
pub mod Settles
