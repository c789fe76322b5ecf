pub mod Pending
pub mod Pipeline
pub mod Round
pub mod Sent
