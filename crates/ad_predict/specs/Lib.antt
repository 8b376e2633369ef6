pub mod Prediction
pub mod Private
