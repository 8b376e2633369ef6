pub mod Listed
pub mod Needs
pub mod Rows
