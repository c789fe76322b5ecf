pub mod Digits
pub mod Floats
pub mod Playing
pub mod Texts
pub mod Lasting
pub mod Refused
pub mod Called
