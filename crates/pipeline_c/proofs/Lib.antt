pub mod Playing
pub mod Numbering
pub mod Tables
