pub mod Votes
pub mod Merging
pub mod Slips
pub mod Sound
pub mod Outcomes
pub mod Late
pub mod MergeCases
