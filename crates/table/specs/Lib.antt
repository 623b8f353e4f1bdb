pub mod Rows
pub mod Disk
pub mod Sound
