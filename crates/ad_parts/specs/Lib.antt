pub mod Area
pub mod Ends
pub mod Layout
pub mod Symbols
pub mod Parts
pub mod Private
