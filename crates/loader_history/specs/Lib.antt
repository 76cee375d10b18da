pub mod History
pub mod Theorems
