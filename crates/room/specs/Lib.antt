pub mod Kinds
pub mod Capturing
pub mod Pipelining
pub mod Rooms
pub mod Slots
pub mod Refused
