pub mod AtLine
pub mod Indices
pub mod Numbered
pub mod Wrapped
