-- Definitions that serve private functions alone.
pub mod Asked
pub mod Seen
