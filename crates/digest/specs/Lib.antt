pub mod Padding
pub mod Blocks
pub mod Digest
pub mod Suite
pub mod Theorems
pub mod Tail
