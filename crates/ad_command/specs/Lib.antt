pub mod Trouble
pub mod Chain
pub mod Loading
pub mod Command
pub mod Refusals
pub mod Ending
pub mod Served
pub mod Private
