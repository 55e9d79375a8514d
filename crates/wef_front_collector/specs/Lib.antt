pub mod Heard
pub mod HeardResponses
pub mod Judged
pub mod Replies
pub mod Steps
