pub mod Moves
pub mod Private
pub mod Requests
pub mod Seen
pub mod Worked
