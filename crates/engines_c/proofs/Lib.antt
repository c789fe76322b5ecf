pub mod Filling
pub mod Storing
pub mod Stating
pub mod Lowest
