pub mod Generated
pub mod Instructions
pub mod Linked
pub mod Modules
pub mod Script
pub mod Private
