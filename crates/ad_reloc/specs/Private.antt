pub mod Indexed
pub mod HighPlaces
pub mod Small
pub mod Linking
pub mod Parts
