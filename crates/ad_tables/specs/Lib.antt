pub mod Symbols
pub mod Tables
pub mod Private
