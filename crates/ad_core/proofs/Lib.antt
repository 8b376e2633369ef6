pub mod Made
pub mod Registers
pub mod Runs
pub mod Stay
