pub mod Moves
pub mod Others
