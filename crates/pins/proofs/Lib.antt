pub mod Fields
pub mod Packs
pub mod Theorems
