pub mod Decimal
pub mod Hex
pub mod Escape
pub mod Words
