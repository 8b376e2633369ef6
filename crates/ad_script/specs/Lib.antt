pub mod Lines
pub mod Forms
pub mod Script
pub mod Accepted
pub mod Range
pub mod Laws
pub mod Private
