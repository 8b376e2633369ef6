pub mod Stands
pub mod Machines
pub mod ClearHistory
pub mod Examples
