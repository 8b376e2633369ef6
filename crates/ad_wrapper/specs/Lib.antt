pub mod Asking
pub mod Fits
pub mod Performed
pub mod Private
