pub mod Run
pub mod Theorems
