pub mod Value
pub mod AddressSpace
pub mod Machine
pub mod Replay
pub mod Examples
pub mod Reply
pub mod Private
