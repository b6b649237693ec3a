pub mod Bytes
pub mod File
pub mod FileLaws
pub mod Line
pub mod Read
