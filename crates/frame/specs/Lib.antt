pub mod Bounds
pub mod Lines
pub mod Play
pub mod Listing
pub mod Cases
pub mod Stopping
pub mod Calls
