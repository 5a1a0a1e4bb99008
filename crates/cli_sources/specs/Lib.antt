pub mod Opened
pub mod Unread
