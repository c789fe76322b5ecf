pub mod Rules
pub mod Distance
pub mod Spreads
pub mod Frontier
pub mod Answers
pub mod Entries
pub mod Cases
