pub mod Changes
pub mod Entry
pub mod Index
pub mod Log
pub mod Disk
pub mod Sound
