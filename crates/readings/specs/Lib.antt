pub mod Readings
pub mod Calls
