pub mod Input
pub mod Ends
pub mod Feeding
pub mod Reading
pub mod Cases
