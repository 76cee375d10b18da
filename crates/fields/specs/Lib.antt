pub mod Places
pub mod Words
pub mod Header
pub mod Checksum
pub mod Merge
pub mod Theorems
