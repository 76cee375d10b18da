pub mod Packer
pub mod Theorems
