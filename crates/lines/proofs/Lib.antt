pub mod Answers
pub mod Ends
pub mod Feeds
pub mod Moves
pub mod Forks
pub mod Cutting
pub mod Standing
