pub mod Numbers
pub mod Payloads
pub mod Console
