pub mod Asked
pub mod Call
pub mod Examples
pub mod Private
pub mod View
