pub mod Views
pub mod Operated
pub mod Moved
pub mod Decided
