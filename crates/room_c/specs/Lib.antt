pub mod Answers
pub mod Console
pub mod Calls
pub mod Rounds
