pub mod Address
pub mod AddressLaws
pub mod Effects
pub mod Limits
pub mod Parts
