pub mod Bus
pub mod Examples
pub mod Image
pub mod Memory
pub mod Plain
pub mod Private
pub mod Steps
pub mod Turn
