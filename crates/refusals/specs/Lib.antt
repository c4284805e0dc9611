pub mod Told
pub mod ToldOfCards
