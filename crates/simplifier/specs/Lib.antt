pub mod Cleared
pub mod Left
pub mod Answers
pub mod Replies
