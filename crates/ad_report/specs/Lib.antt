pub mod Listing
pub mod Mapping
pub mod Private
pub mod Report
pub mod Summary
