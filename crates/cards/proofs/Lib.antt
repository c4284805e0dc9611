mod Accepting
mod CardLines
mod FieldTexts
mod Gathering
mod HeadLines
mod LineTexts
mod Numerals
mod Outcomes
pub mod Painting
mod RowLines
mod Splits
mod Stepping
mod WholeCards
mod Wholes
mod Faults
