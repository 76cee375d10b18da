pub mod Pins
pub mod Theorems
