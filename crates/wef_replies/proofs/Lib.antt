pub mod IdTexts
pub mod LeasesRead
pub mod Numbered
pub mod OneIsHeard
pub mod ReadIsGood
pub mod Refused
pub mod RepliesAreGood
