pub mod Queue
pub mod Round
pub mod Sift
pub mod Waiting
