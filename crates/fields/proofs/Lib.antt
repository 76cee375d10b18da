pub mod Words
pub mod Checksum
pub mod Mask
pub mod Theorems
