pub mod Moves
pub mod Plain
pub mod Guessing
pub mod Promise
pub mod Invisible
pub mod Relation
pub mod Truth
