pub mod Padded
pub mod Sixteen
pub mod Chained
pub mod Length
pub mod Suite
pub mod Examples
pub mod Theorems
