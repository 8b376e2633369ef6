pub mod Lines
pub mod Linked
pub mod Numbers
pub mod Readable
pub mod ScriptRead
pub mod Spaced
pub mod Worked
