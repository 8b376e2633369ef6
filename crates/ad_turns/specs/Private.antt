-- Definitions that serve private functions alone.
pub mod Boxed
pub mod Handles
