pub mod Laid
pub mod Arranged
pub mod Next
pub mod Halved
pub mod Repeated
pub mod Fitted
pub mod Listed
