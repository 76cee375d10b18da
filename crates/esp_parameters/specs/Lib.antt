pub mod Parameters
pub mod Theorems
