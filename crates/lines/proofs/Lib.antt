pub mod Hexes
pub mod Escapes
pub mod Wordings
