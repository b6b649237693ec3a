pub mod Judged
pub mod Walks
pub mod Paths
pub mod Children
