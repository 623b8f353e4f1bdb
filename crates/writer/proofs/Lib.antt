pub mod Fronts
pub mod Counts
pub mod Trips
pub mod Accepted
pub mod Firsts
pub mod Again
