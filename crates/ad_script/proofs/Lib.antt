pub mod Accepted
pub mod FirstBad
pub mod InRange
pub mod Kept
pub mod Lists
pub mod Reading
pub mod Spelling
pub mod Words
