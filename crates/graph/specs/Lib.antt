pub mod Links
pub mod Paths
pub mod Waves
pub mod Console
