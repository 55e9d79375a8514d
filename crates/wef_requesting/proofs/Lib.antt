pub mod OverRows
mod Sending
