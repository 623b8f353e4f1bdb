pub mod Texts
pub mod Cuts
pub mod Wildcards
pub mod Steps
pub mod Grants
pub mod Laws
pub mod NameFacts
pub mod Qualities
