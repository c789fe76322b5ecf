pub mod Spaces
pub mod Numbers
pub mod Strings
pub mod Reading
pub mod Values
pub mod Single
pub mod Needs
