pub mod Bytes
pub mod Code
pub mod Made
pub mod Opened
pub mod Pages
pub mod Pieces
pub mod Reached
pub mod Runs
