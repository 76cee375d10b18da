pub mod Sizes
pub mod Packets
pub mod Numbered
pub mod Parts
pub mod Sending
pub mod Theorems
