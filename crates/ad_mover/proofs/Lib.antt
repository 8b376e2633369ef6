pub mod Drawing
pub mod Lines
pub mod Requests
pub mod Rooms
pub mod Worked
