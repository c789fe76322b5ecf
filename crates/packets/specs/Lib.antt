pub mod Packets
pub mod Reading
pub mod Writing
pub mod Writers
pub mod Values
pub mod Promises
