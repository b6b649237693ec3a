pub mod Rules
pub mod Seen
pub mod Run
pub mod Call
pub mod Bench
pub mod Whole
