pub mod Below
pub mod Fields
pub mod File
pub mod Private
pub mod Range
pub mod Refusals
pub mod Relocation
pub mod Worked
