pub mod Load
pub mod Packets
pub mod Line
pub mod Sending
pub mod Parts
pub mod Theorems
