pub mod Lists
pub mod Windows
pub mod Rooms
pub mod Orders
pub mod Monotone
