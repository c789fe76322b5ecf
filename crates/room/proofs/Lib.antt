pub mod Answers
pub mod Holding
pub mod Moments
pub mod Calling
pub mod Flooding
pub mod Refusing
pub mod Spending
pub mod Validity
