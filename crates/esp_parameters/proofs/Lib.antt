pub mod Sync
pub mod Theorems
