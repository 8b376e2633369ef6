pub mod ObjectFile
pub mod Writable
pub mod Worked
pub mod ReadBack
pub mod Private
