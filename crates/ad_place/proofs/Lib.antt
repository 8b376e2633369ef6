pub mod FirstFound
pub mod Regions
pub mod Places
pub mod Kept
pub mod Requests
