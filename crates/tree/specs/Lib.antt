pub mod Tree
pub mod Arena
pub mod ArenaLaws
pub mod Form
pub mod Meaning
pub mod Rows
