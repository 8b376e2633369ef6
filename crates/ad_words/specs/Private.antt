-- Definitions that serve private functions alone.
pub mod Parsing
pub mod Seen
