pub mod Heard
pub mod HeardReplies
pub mod Replies
pub mod Sending
pub mod Steps
