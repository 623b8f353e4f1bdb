pub mod Fields
pub mod Filters
pub mod Packet
pub mod Reads
pub mod Bytes
