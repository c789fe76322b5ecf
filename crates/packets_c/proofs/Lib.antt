pub mod Asked
pub mod Desks
pub mod Texting
pub mod Late
pub mod Numbered
pub mod Back
