-- Definitions that serve private functions alone.
pub mod Handles
pub mod Opening
pub mod Rows
