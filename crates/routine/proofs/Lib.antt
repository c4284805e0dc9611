pub mod Address
pub mod Limits
