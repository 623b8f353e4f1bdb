mod Table
pub mod Types
pub mod Fronts
pub mod Lengths
pub mod Apart
