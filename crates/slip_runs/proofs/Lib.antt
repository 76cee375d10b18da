pub mod Passing
pub mod Theorems
pub mod Kept
pub mod Cut
