pub mod Flood
pub mod Quiet
pub mod Sent
