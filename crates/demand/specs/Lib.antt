pub mod Calls
pub mod Demand
pub mod Texts
pub mod Cases
pub mod Rounds
pub mod Covered
pub mod Outcomes
