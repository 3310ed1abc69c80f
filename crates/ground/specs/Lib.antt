pub mod Reads
pub mod Replies
