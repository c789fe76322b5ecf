pub mod Plain
pub mod First
