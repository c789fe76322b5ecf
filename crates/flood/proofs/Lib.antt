pub mod Flooding
pub mod Sums
pub mod Sent
pub mod Quieting
pub mod FloodShortage
pub mod Hearers
