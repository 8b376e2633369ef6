pub mod Plan
pub mod Reason
