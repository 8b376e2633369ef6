-- Definitions that serve private functions alone.
pub mod Asks
pub mod Held
pub mod InPieces
pub mod Spots
pub mod Stored
pub mod WholeWords
