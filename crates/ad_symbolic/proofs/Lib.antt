pub mod Accesses
pub mod Bytes
pub mod Filled
pub mod Histories
pub mod Numbers
pub mod Registers
pub mod Runs
