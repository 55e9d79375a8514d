pub mod Beats
pub mod Ends
pub mod Laws
pub mod Replies
pub mod Requests
pub mod Sent
