pub mod BodiesAgain
pub mod EachOffer
pub mod GoodBodies
pub mod LeasesAgain
pub mod OffersAgain
