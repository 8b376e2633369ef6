pub mod Asking
pub mod Composed
pub mod HandsAgain
pub mod ReadActs
