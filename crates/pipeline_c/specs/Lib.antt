pub mod Play
pub mod Console
