mod Allowed
mod FirstDue
mod InOrder
mod LeaseRows
mod LeasesAreChanged
mod NextIsFirst
mod Places
mod Texts
