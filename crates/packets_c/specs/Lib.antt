pub mod Console
pub mod Desk
pub mod Back
pub mod Late
