pub mod Causes
pub mod CollectingDue
pub mod Completing
pub mod FailuresCaused
pub mod FormsStaying
pub mod ForwardingDue
pub mod ForwardsCaused
mod Hosts
mod Leaving
pub mod LinesDone
pub mod RequestsCaused
pub mod ServesCaused
pub mod SubscribingDue
pub mod TellingDue
pub mod TooLong
mod Wanting
