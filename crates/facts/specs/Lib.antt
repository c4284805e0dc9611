pub mod Order
pub mod Rules
pub mod Leaks
pub mod Tables
pub mod Raising
