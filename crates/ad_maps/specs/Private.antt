-- Definitions that serve private functions alone.
pub mod Handles
pub mod Laid
pub mod Numbered
pub mod Tells
pub mod Trials
