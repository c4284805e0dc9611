pub mod Widths
pub mod Pairs
pub mod Rows
pub mod Arrivals
pub mod Stepping
pub mod Leakless
pub mod Invisible
pub mod Keeping
