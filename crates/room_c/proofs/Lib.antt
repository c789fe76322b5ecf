pub mod Tabled
pub mod Making
pub mod Putting
pub mod Called
pub mod Rounding
