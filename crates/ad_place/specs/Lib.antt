pub mod Choice
pub mod ChoiceLaws
pub mod Private
