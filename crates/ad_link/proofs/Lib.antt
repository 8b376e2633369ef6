pub mod Finished
pub mod OneAnswer
